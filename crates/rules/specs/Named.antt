-- The rule of a name over the spacings of the axes, and its laws, each by cases.
use Rattle.std.specs.Prelude.{ℕ}
use Rattle.std.proofs.Common.{arith}
use Rattle.grid.specs.Distance.{Near}
use Rattle.rules.specs.Laws.{Order, Crossing, Bounded, Ceilings}
use Rattle.rules.specs.Formulas.{spacing, square_near, block_near, chess_near, square_ceiling, block_ceiling, chess_ceiling}
use Rattle.rules.specs.Ceilings.{square_bounded, block_bounded, chess_bounded, square_ceilings, block_ceilings, chess_ceilings}
use Rattle.rules.specs.Squares.{square_crosses}
use Rattle.rules.specs.Blocks.{block_crosses}
use Rattle.rules.specs.Chesses.{chess_crosses}
use Rattle.rules.specs.declared.name.RuleName.{RuleName}
use Rattle.rules.specs.declared.name.RuleName.TheVariants.{Square, Block, Chess}
use Rattle.rules.specs.declared.spacings.Spacings.{Spacings}

-- what the rule of a name means
abbrev pub named_near : RuleName → Spacings → Near
named_near Square s = square_near s
named_near Block s = block_near s
named_near Chess s = chess_near s

-- its ceilings
abbrev pub named_ceiling : RuleName → Spacings → ℕ → ℕ
named_ceiling Square s = square_ceiling s
named_ceiling Block s = block_ceiling s
named_ceiling Chess s = chess_ceiling s

pub named_order : (n : RuleName) (s : Spacings) → Order (named_ceiling n s) (named_near n s)
named_order Square s d i t g h seen le = omega arith
named_order Block s d i t g h seen le = omega arith
named_order Chess s d i t g h seen le = omega arith

pub named_crosses : (n : RuleName) (s : Spacings) → Crossing (named_ceiling n s) (named_near n s)
named_crosses Square s d i g j h t pair _ le = square_crosses (spacing s d) i g j h t pair.ahead le
named_crosses Block s d i g j h t pair _ le = block_crosses (spacing s d) i g j h t pair.ahead le
named_crosses Chess s d i g j h t pair _ le = chess_crosses (spacing s d) i g j h t pair.ahead le

pub named_bounded : (n : RuleName) (s : Spacings) → Bounded (named_ceiling n s) (named_near n s)
named_bounded Square s = square_bounded s
named_bounded Block s = block_bounded s
named_bounded Chess s = chess_bounded s

pub named_ceilings : (n : RuleName) (s : Spacings) → Ceilings (named_ceiling n s)
named_ceilings Square s = square_ceilings s
named_ceilings Block s = block_ceilings s
named_ceilings Chess s = chess_ceilings s
