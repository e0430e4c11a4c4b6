use Rattle.std.proofs.Common.{string_bytes}
use Rattle.reporting.specs.Texts.{PrintsBelow}
use Rattle.reporting.proofs.text.field_text.Given as goal

abbrev pub invariant-loop-number : goal.invariant-loop-number
invariant-loop-number l = PrintsBelow l.rule l.grid.sizes l.cells l.number (string_bytes l.text)
