-- A text has at most one line of names: each name with its ending is read in one way only.
use Rattle.std.proofs.Common.{◌≡◌, ℕ, List, ◌∷◌, ◌++◌, sym, refl, ◌∙◌, append_assoc, arith}
use Rattle.job_text.specs.declared.columns.Column.{Column}
use Rattle.job_text.specs.declared.columns.Column.TheVariants.{Rule, Sx, Sy, Sz}
use Rattle.job_text.specs.declared.columns.Order.{Order}
use Rattle.job_text.specs.Jobs.{column_name, EachOnce, Names, ReadsWord, NoWord}

-- what is read of a name is the only way to read one there
abbrev Same : Column → Column → List ℕ → List ℕ → Type 0
Same c d r t = (c ≡ d) × (r ≡ t)

pub name_same : (c d : Column) (e : ℕ) (r t : List ℕ) → column_name c ++ e ∷ r ≡ column_name d ++ e ∷ t → Same c d r t
name_same Rule Rule e r t h = (refl, cc)
name_same Rule Sx e r t h = let z : ◌≡◌ {A = ℕ} 114 115 = cc in absurd (omega arith)
name_same Rule Sy e r t h = let z : ◌≡◌ {A = ℕ} 114 115 = cc in absurd (omega arith)
name_same Rule Sz e r t h = let z : ◌≡◌ {A = ℕ} 114 115 = cc in absurd (omega arith)
name_same Sx Rule e r t h = let z : ◌≡◌ {A = ℕ} 115 114 = cc in absurd (omega arith)
name_same Sx Sx e r t h = (refl, cc)
name_same Sx Sy e r t h = let z : ◌≡◌ {A = ℕ} 120 121 = cc in absurd (omega arith)
name_same Sx Sz e r t h = let z : ◌≡◌ {A = ℕ} 120 122 = cc in absurd (omega arith)
name_same Sy Rule e r t h = let z : ◌≡◌ {A = ℕ} 115 114 = cc in absurd (omega arith)
name_same Sy Sx e r t h = let z : ◌≡◌ {A = ℕ} 121 120 = cc in absurd (omega arith)
name_same Sy Sy e r t h = (refl, cc)
name_same Sy Sz e r t h = let z : ◌≡◌ {A = ℕ} 121 122 = cc in absurd (omega arith)
name_same Sz Rule e r t h = let z : ◌≡◌ {A = ℕ} 115 114 = cc in absurd (omega arith)
name_same Sz Sx e r t h = let z : ◌≡◌ {A = ℕ} 122 120 = cc in absurd (omega arith)
name_same Sz Sy e r t h = let z : ◌≡◌ {A = ℕ} 122 121 = cc in absurd (omega arith)
name_same Sz Sz e r t h = (refl, cc)

-- the four names of a line, one after the other
pub record FourNames (text : List ℕ) (o : Order) (rest : List ℕ) : Type 0 where
  pub second_on : List ℕ
  pub third_on : List ℕ
  pub fourth_on : List ℕ
  pub first : ReadsWord text (column_name o.first) 32 second_on
  pub second : ReadsWord second_on (column_name o.second) 32 third_on
  pub third : ReadsWord third_on (column_name o.third) 32 fourth_on
  pub fourth : ReadsWord fourth_on (column_name o.fourth) 10 rest

pub four_from_names : (text : List ℕ) (o : Order) (rest : List ℕ) → Names text o rest → FourNames text o rest
four_from_names text o rest names =
    record {
      second_on = _;
      third_on = _;
      fourth_on = _;
      first = names.whole ∙ simp append_assoc;
      second = refl;
      third = refl;
      fourth = refl;
    }

-- A line of names that the text has is the one that was read, name by name.
module _ (text : List ℕ) (o : Order) (rest : List ℕ) (names : Names text o rest) where
  four : FourNames text o rest
  four = four_from_names text o rest names

  module _ (a : Column) (on₂ : List ℕ) (first : ReadsWord text (column_name a) 32 on₂) where
    same_first : Same a o.first on₂ four.second_on
    same_first = name_same a o.first 32 on₂ four.second_on (sym first ∙ four.first)

    from_second : ReadsWord on₂ (column_name o.second) 32 four.third_on
    from_second = same_first.1 ∙ four.second

    module _ (b : Column) (on₃ : List ℕ) (second : ReadsWord on₂ (column_name b) 32 on₃) where
      same_second : Same b o.second on₃ four.third_on
      same_second = name_same b o.second 32 on₃ four.third_on (sym second ∙ from_second)

      from_third : ReadsWord on₃ (column_name o.third) 32 four.fourth_on
      from_third = same_second.1 ∙ four.third

      module _ (c : Column) (on₄ : List ℕ) (third : ReadsWord on₃ (column_name c) 32 on₄) where
        same_third : Same c o.third on₄ four.fourth_on
        same_third = name_same c o.third 32 on₄ four.fourth_on (sym third ∙ from_third)

        from_fourth : ReadsWord on₄ (column_name o.fourth) 10 rest
        from_fourth = same_third.1 ∙ four.fourth

        pub no_fourth_name : ((n : Column) → NoWord on₄ (column_name n) 10) → ⊥
        no_fourth_name none = none o.fourth rest from_fourth

        -- the names that were read stand there once each, as those of the line do
        pub read_once : (d : Column) (end : List ℕ) → ReadsWord on₄ (column_name d) 10 end → EachOnce record { first = a; second = b; third = c; fourth = d }
        read_once d end fourth =
            let ea = same_first.0 in
            let eb = same_second.0 in
            let ec = same_third.0 in
            let ed = (name_same d o.fourth 10 end rest (sym fourth ∙ from_fourth)).0 in
            let once = names.each_once in
            record {
              first_second = λ e. once.first_second (sym ea ∙ e ∙ eb);
              first_third = λ e. once.first_third (sym ea ∙ e ∙ ec);
              first_fourth = λ e. once.first_fourth (sym ea ∙ e ∙ ed);
              second_third = λ e. once.second_third (sym eb ∙ e ∙ ec);
              second_fourth = λ e. once.second_fourth (sym eb ∙ e ∙ ed);
              third_fourth = λ e. once.third_fourth (sym ec ∙ e ∙ ed);
            }
