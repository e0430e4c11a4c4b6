-- The stack of a job text is what comes after the two lines.
use Rattle.std.proofs.Common.{ℕ, ◌≤◌, List, map, length, ap, arith, length-append}
use Rattle.job_text.specs.declared.settings.Settings.{Settings}
use Rattle.job_text.specs.Lines.{line_of}
use Rattle.job_text.specs.Jobs.{IsJob, column_name, value_text, columns}

pub stack_length : (input : List ℕ) (s : Settings) (stack : List ℕ) → IsJob input s stack → length stack ≤ length input
stack_length input s stack job =
    let one = length-append (line_of (map column_name (columns job.order))) job.second_line in
    let two = length-append (line_of (map (value_text s) (columns job.order))) stack in
    omega (arith, one, two, ap length job.names.whole, ap length job.values.whole)
