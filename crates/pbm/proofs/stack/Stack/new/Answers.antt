use Rattle.pbm.proofs.Unique as read
use Rattle.pbm.proofs.stack.Stack.new.Goals as goal

pub returns : goal.returns
returns c =
    let bytes = c.args.bytes.now in
    record {
      cases = c.read_stack.ensures;
      accepts = read.accepts bytes c.read_stack.result c.read_stack.ensures;
      tells = read.tells bytes c.read_stack.result c.read_stack.ensures;
      within = read.within bytes c.read_stack.result c.read_stack.ensures;
    }
