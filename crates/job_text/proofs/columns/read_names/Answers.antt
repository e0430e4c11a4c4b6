use Rattle.std.proofs.Common.{◌≡◌, ℕ, true, false, arith}
use Rattle.job_text.proofs.NameLines.{no_fourth_name, read_once}
use Rattle.job_text.proofs.columns.read_names.Goals as goal

pub returns-in_err-fourth : goal.returns-in_err-fourth
returns-in_err-fourth c =
    rw c.from_residual-in_err-fourth.ensures
    (λ o rest names. no_fourth_name _ o rest names _ _ c.in_ok-first.ensures _ _ c.in_ok-second.ensures _ _ c.in_ok-third.ensures c.in_err-fourth.ensures)

pub returns-else-each_once : goal.returns-else-each_once
returns-else-each_once c o rest names =
    let once = read_once _ o rest names _ _ c.in_ok-first.ensures _ _ c.in_ok-second.ensures _ _ c.in_ok-third.ensures _ _ c.in_ok-fourth.ensures in
    let z : false ≡ true = c.if-each_once.ensures.1 once in
    let y : ◌≡◌ {A = ℕ} 0 1 = cc in
    omega arith
