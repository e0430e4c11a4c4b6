-- A text has at most one line of values in a given order of the columns.
use Rattle.std.proofs.Common.{◌≡◌, ℕ, ◌<◌, ◌≢◌, List, ◌∷◌, ◌++◌, sym, refl, ap, ◌∙◌, append_assoc, arith}
use Rattle.numerals.specs.Numerals.{numeral}
use Rattle.numerals.proofs.Reading.{reads_same}
use Rattle.job_text.specs.declared.columns.Column.{Column}
use Rattle.job_text.specs.declared.columns.Column.TheVariants.{Rule, Sx, Sy, Sz}
use Rattle.job_text.specs.declared.columns.Order.{Order}
use Rattle.rules.specs.declared.name.RuleName.{RuleName}
use Rattle.rules.specs.declared.name.RuleName.TheVariants.{Square, Block, Chess}
use Rattle.job_text.specs.declared.settings.Settings.{Settings}
use Rattle.rules.specs.Names.{rule_word}
use Rattle.job_text.specs.Jobs.{EachOnce, value_text, ValueFits, Values, ReadsWord, ReadsSetting, NoSetting, SameBut}

rule_same : (m n : RuleName) (e : ℕ) (r t : List ℕ) → rule_word m ++ e ∷ r ≡ rule_word n ++ e ∷ t → r ≡ t
rule_same Square Square e r t h = cc
rule_same Square Block e r t h = let z : ◌≡◌ {A = ℕ} 115 98 = cc in absurd (omega arith)
rule_same Square Chess e r t h = let z : ◌≡◌ {A = ℕ} 115 99 = cc in absurd (omega arith)
rule_same Block Square e r t h = let z : ◌≡◌ {A = ℕ} 98 115 = cc in absurd (omega arith)
rule_same Block Block e r t h = cc
rule_same Block Chess e r t h = let z : ◌≡◌ {A = ℕ} 98 99 = cc in absurd (omega arith)
rule_same Chess Square e r t h = let z : ◌≡◌ {A = ℕ} 99 115 = cc in absurd (omega arith)
rule_same Chess Block e r t h = let z : ◌≡◌ {A = ℕ} 99 98 = cc in absurd (omega arith)
rule_same Chess Chess e r t h = cc

-- the value of a column ends at one place only
pub value_same : (c : Column) (s u : Settings) (e : ℕ) → e < 48 → (r t : List ℕ) → value_text s c ++ e ∷ r ≡ value_text u c ++ e ∷ t → r ≡ t
value_same Rule s u e l r t h = rule_same s.rule u.rule e r t h
value_same Sx s u e l r t h = (reads_same s.sx u.sx e r t l h).1
value_same Sy s u e l r t h = (reads_same s.sy u.sy e r t l h).1
value_same Sz s u e l r t h = (reads_same s.sz u.sz e r t l h).1

-- reading one column leaves what the others have
pub kept_other : (c d : Column) (s u : Settings) → SameBut c s u → d ≢ c → value_text u d ≡ value_text s d
kept_other Rule Rule s u h n = absurd (n refl)
kept_other Rule Sx s u h n = ap numeral (sym h.0)
kept_other Rule Sy s u h n = ap numeral (sym h.1)
kept_other Rule Sz s u h n = ap numeral (sym h.2)
kept_other Sx Rule s u h n = ap rule_word (sym h.0)
kept_other Sx Sx s u h n = absurd (n refl)
kept_other Sx Sy s u h n = ap numeral (sym h.1)
kept_other Sx Sz s u h n = ap numeral (sym h.2)
kept_other Sy Rule s u h n = ap rule_word (sym h.0)
kept_other Sy Sx s u h n = ap numeral (sym h.1)
kept_other Sy Sy s u h n = absurd (n refl)
kept_other Sy Sz s u h n = ap numeral (sym h.2)
kept_other Sz Rule s u h n = ap rule_word (sym h.0)
kept_other Sz Sx s u h n = ap numeral (sym h.1)
kept_other Sz Sy s u h n = ap numeral (sym h.2)
kept_other Sz Sz s u h n = absurd (n refl)

pub still_fits : (c d : Column) (s u : Settings) → SameBut c s u → ValueFits u c → ValueFits s d → ValueFits u d
still_fits Rule Rule s u h f g = tt
still_fits Rule Sx s u h f g = let e = h.0 in (omega (arith, g.0), omega (arith, g.1))
still_fits Rule Sy s u h f g = let e = h.1 in (omega (arith, g.0), omega (arith, g.1))
still_fits Rule Sz s u h f g = let e = h.2 in (omega (arith, g.0), omega (arith, g.1))
still_fits Sx Rule s u h f g = tt
still_fits Sx Sx s u h f g = f
still_fits Sx Sy s u h f g = let e = h.1 in (omega (arith, g.0), omega (arith, g.1))
still_fits Sx Sz s u h f g = let e = h.2 in (omega (arith, g.0), omega (arith, g.1))
still_fits Sy Rule s u h f g = tt
still_fits Sy Sx s u h f g = let e = h.1 in (omega (arith, g.0), omega (arith, g.1))
still_fits Sy Sy s u h f g = f
still_fits Sy Sz s u h f g = let e = h.2 in (omega (arith, g.0), omega (arith, g.1))
still_fits Sz Rule s u h f g = tt
still_fits Sz Sx s u h f g = let e = h.1 in (omega (arith, g.0), omega (arith, g.1))
still_fits Sz Sy s u h f g = let e = h.2 in (omega (arith, g.0), omega (arith, g.1))
still_fits Sz Sz s u h f g = f

-- the settings that a reading starts from
pub blank_fits : (s : Settings) → s.sx ≡ 1 → s.sy ≡ 1 → s.sz ≡ 1 → (c : Column) → ValueFits s c
blank_fits s x y z Rule = tt
blank_fits s x y z Sx = (omega arith, omega arith)
blank_fits s x y z Sy = (omega arith, omega arith)
blank_fits s x y z Sz = (omega arith, omega arith)

-- the four values of a line, one after the other
pub record FourValues (text : List ℕ) (o : Order) (s : Settings) (rest : List ℕ) : Type 0 where
  pub second_on : List ℕ
  pub third_on : List ℕ
  pub fourth_on : List ℕ
  pub first : ReadsWord text (value_text s o.first) 32 second_on
  pub second : ReadsWord second_on (value_text s o.second) 32 third_on
  pub third : ReadsWord third_on (value_text s o.third) 32 fourth_on
  pub fourth : ReadsWord fourth_on (value_text s o.fourth) 10 rest

four_from_values : (text : List ℕ) (o : Order) (s : Settings) (rest : List ℕ) → Values text o s rest → FourValues text o s rest
four_from_values text o s rest values =
    record {
      second_on = _;
      third_on = _;
      fourth_on = _;
      first = values.whole ∙ simp append_assoc;
      second = refl;
      third = refl;
      fourth = refl;
    }

-- A line of values that the text has goes on where the values that were read end.
module _ (text : List ℕ) (o : Order) (s : Settings) (rest : List ℕ) (values : Values text o s rest) where
  four : FourValues text o s rest
  four = four_from_values text o s rest values

  module _ (s₁ : Settings) (on₂ : List ℕ) (first : ReadsWord text (value_text s₁ o.first) 32 on₂) where
    from_second : ReadsWord on₂ (value_text s o.second) 32 four.third_on
    from_second = value_same o.first s₁ s 32 (omega arith) on₂ four.second_on (sym first ∙ four.first) ∙ four.second

    pub no_second_value : NoSetting on₂ o.second 32 → ⊥
    no_second_value none = none s (values.each_fits o.second) four.third_on from_second

    module _ (s₂ : Settings) (on₃ : List ℕ) (second : ReadsWord on₂ (value_text s₂ o.second) 32 on₃) where
      from_third : ReadsWord on₃ (value_text s o.third) 32 four.fourth_on
      from_third = value_same o.second s₂ s 32 (omega arith) on₃ four.third_on (sym second ∙ from_second) ∙ four.third

      pub no_third_value : NoSetting on₃ o.third 32 → ⊥
      no_third_value none = none s (values.each_fits o.third) four.fourth_on from_third

      module _ (s₃ : Settings) (on₄ : List ℕ) (third : ReadsWord on₃ (value_text s₃ o.third) 32 on₄) where
        pub no_fourth_value : NoSetting on₄ o.fourth 10 → ⊥
        no_fourth_value none =
            none s (values.each_fits o.fourth) rest
            (value_same o.third s₃ s 32 (omega arith) on₄ four.fourth_on (sym third ∙ from_third) ∙ four.fourth)

-- the settings after four readings have each of the four values
pub values_from_readings : (text on₂ on₃ on₄ rest : List ℕ) (o : Order) (s₀ s₁ s₂ s₃ s₄ : Settings) → EachOnce o → ((c : Column) → ValueFits s₀ c)
    → ReadsSetting s₀ o.first text 32 s₁ on₂ → ReadsSetting s₁ o.second on₂ 32 s₂ on₃
    → ReadsSetting s₂ o.third on₃ 32 s₃ on₄ → ReadsSetting s₃ o.fourth on₄ 10 s₄ rest → Values text o s₄ rest
values_from_readings text on₂ on₃ on₄ rest o s₀ s₁ s₂ s₃ s₄ once fits r₁ r₂ r₃ r₄ =
    let a₂ = kept_other o.second o.first s₁ s₂ r₂.others_stay once.first_second in
    let a₃ = kept_other o.third o.first s₂ s₃ r₃.others_stay once.first_third in
    let a₄ = kept_other o.fourth o.first s₃ s₄ r₄.others_stay once.first_fourth in
    let b₃ = kept_other o.third o.second s₂ s₃ r₃.others_stay once.second_third in
    let b₄ = kept_other o.fourth o.second s₃ s₄ r₄.others_stay once.second_fourth in
    let third = kept_other o.fourth o.third s₃ s₄ r₄.others_stay once.third_fourth in
    let first : value_text s₄ o.first ≡ value_text s₁ o.first = a₄ ∙ a₃ ∙ a₂ in
    let second : value_text s₄ o.second ≡ value_text s₂ o.second = b₄ ∙ b₃ in
    let w₁ = r₁.whole in
    let w₂ = r₂.whole in
    let w₃ = r₃.whole in
    let w₄ = r₄.whole in
    record {
      each_fits = λ c.
          still_fits o.fourth c s₃ s₄ r₄.others_stay r₄.fits
          (still_fits o.third c s₂ s₃ r₃.others_stay r₃.fits
          (still_fits o.second c s₁ s₂ r₂.others_stay r₂.fits
          (still_fits o.first c s₀ s₁ r₁.others_stay r₁.fits (fits c))));
      whole = w₁ ∙ rw w₂ (rw w₃ (rw w₄ (rw (← first, ← second, ← third) (simp append_assoc))));
    }
