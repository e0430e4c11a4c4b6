use Rattle.std.proofs.Common.{refl}
use Rattle.rules.specs.declared.name.RuleName.TheVariants.{Square}
use Rattle.job_text.proofs.Words.{option_weaker}
use Rattle.job_text.proofs.ValueLines.{no_second_value, no_third_value, no_fourth_value, values_from_readings, blank_fits}
use Rattle.job_text.proofs.settings.read_values.Goals as goal

pub returns-in_err-two : goal.returns-in_err-two
returns-in_err-two c =
    rw c.from_residual-in_err-two.ensures
    (λ s rest values. no_second_value _ _ s rest values _ _ c.in_ok-one.ensures.whole c.in_err-two.ensures)

pub returns-in_err-three : goal.returns-in_err-three
returns-in_err-three c =
    rw c.from_residual-in_err-three.ensures
    (λ s rest values. no_third_value _ _ s rest values _ _ c.in_ok-one.ensures.whole _ _ c.in_ok-two.ensures.whole c.in_err-three.ensures)

pub returns : goal.returns
returns c =
    let one = c.in_ok-one.ensures in
    let two = c.in_ok-two.ensures in
    let three = c.in_ok-three.ensures in
    option_weaker c.read_setting-4.result c.read_setting-4.ensures
    (λ none s rest values. no_fourth_value _ _ s rest values _ _ one.whole _ _ two.whole _ _ three.whole none)
    (λ p four. values_from_readings _ _ _ _ p.1.now _ _ _ _ _ p.0 c.requires (blank_fits record { rule = Square; sx = 1; sy = 1; sz = 1 } refl refl refl) one two three four)
