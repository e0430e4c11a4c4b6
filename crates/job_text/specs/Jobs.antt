-- The text of a job: a line of column names, a line of their values in the same order, and then a stack of images.
use Rattle.std.specs.Prelude.{◌≡◌, ℕ, ◌<◌, ◌≤◌, ◌≢◌, List, [], ◌∷◌, ◌++◌, map, length, codes}
use Rattle.numerals.specs.Numerals.{numeral}
use Rattle.rules.specs.Ranges.{IsSpacing}
use Rattle.job_text.specs.Lines.{line_of}
use Rattle.job_text.specs.declared.columns.Column.{Column}
use Rattle.job_text.specs.declared.columns.Column.TheVariants.{Rule, Sx, Sy, Sz}
use Rattle.job_text.specs.declared.columns.Order.{Order}
use Rattle.job_text.specs.declared.job.JobFault.{JobFault}
use Rattle.job_text.specs.declared.job.JobFault.TheVariants as fault
use Rattle.rules.specs.Names.{rule_word}
use Rattle.job_text.specs.declared.settings.Settings.{Settings}

abbrev pub column_name : Column → List ℕ
column_name Rule = codes "rule"
column_name Sx = codes "sx"
column_name Sy = codes "sy"
column_name Sz = codes "sz"

abbrev pub columns : Order → List Column
columns o = o.first ∷ o.second ∷ o.third ∷ o.fourth ∷ []

-- no two of the four columns are the same, so each of the four stands in the order once
pub record EachOnce (o : Order) : Type 0 where
  pub first_second : o.first ≢ o.second
  pub first_third : o.first ≢ o.third
  pub first_fourth : o.first ≢ o.fourth
  pub second_third : o.second ≢ o.third
  pub second_fourth : o.second ≢ o.fourth
  pub third_fourth : o.third ≢ o.fourth

-- the text is the line of the names in this order, and the rest
pub record Names (text : List ℕ) (o : Order) (rest : List ℕ) : Type 0 where
  pub each_once : EachOnce o
  pub whole : text ≡ line_of (map column_name (columns o)) ++ rest

-- how the value of a column is written: a rule by its name, a spacing in decimal digits with no zero in front
abbrev pub value_text : Settings → Column → List ℕ
value_text s Rule = rule_word s.rule
value_text s Sx = numeral s.sx
value_text s Sy = numeral s.sy
value_text s Sz = numeral s.sz

-- a spacing is one that an axis can have
abbrev pub ValueFits : Settings → Column → Type 0
ValueFits s Rule = Unit {0}
ValueFits s Sx = IsSpacing s.sx
ValueFits s Sy = IsSpacing s.sy
ValueFits s Sz = IsSpacing s.sz

-- the text is the line of the values in this order, and the rest
pub record Values (text : List ℕ) (o : Order) (s : Settings) (rest : List ℕ) : Type 0 where
  pub each_fits : (c : Column) → ValueFits s c
  pub whole : text ≡ line_of (map (value_text s) (columns o)) ++ rest

-- the text is a word, the byte that ends it, and the rest
abbrev pub ReadsWord : List ℕ → List ℕ → ℕ → List ℕ → Type 0
ReadsWord text word end rest = text ≡ word ++ end ∷ rest

abbrev pub NoWord : List ℕ → List ℕ → ℕ → Type 0
NoWord text word end = (rest : List ℕ) → ReadsWord text word end rest → ⊥

-- two settings differ in no column but this one
abbrev pub SameBut : Column → Settings → Settings → Type 0
SameBut Rule s t = (s.sx ≡ t.sx) × (s.sy ≡ t.sy) × (s.sz ≡ t.sz)
SameBut Sx s t = (s.rule ≡ t.rule) × (s.sy ≡ t.sy) × (s.sz ≡ t.sz)
SameBut Sy s t = (s.rule ≡ t.rule) × (s.sx ≡ t.sx) × (s.sz ≡ t.sz)
SameBut Sz s t = (s.rule ≡ t.rule) × (s.sx ≡ t.sx) × (s.sy ≡ t.sy)

-- the text begins with a value of the column, which the settings then have
pub record ReadsSetting (before : Settings) (c : Column) (text : List ℕ) (end : ℕ) (after : Settings) (rest : List ℕ) : Type 0 where
  pub fits : ValueFits after c
  pub others_stay : SameBut c before after
  pub whole : ReadsWord text (value_text after c) end rest

abbrev pub NoSetting : List ℕ → Column → ℕ → Type 0
NoSetting text c end = (s : Settings) → ValueFits s c → NoWord text (value_text s c) end

-- the input is a job text: at most 8,192 bytes, a line of names, a line of values, and then the stack
pub record IsJob (input : List ℕ) (s : Settings) (stack : List ℕ) : Type 0 where
  pub short : length input ≤ 8192
  pub order : Order
  pub second_line : List ℕ
  pub names : Names input order second_line
  pub values : Values second_line order s stack

-- the first line is right, the second, which starts where the first ends, is not
pub record NoValues (input : List ℕ) (start : ℕ) : Type 0 where
  pub short : length input ≤ 8192
  pub order : Order
  pub second_line : List ℕ
  pub names : Names input order second_line
  pub no_values : (s : Settings) (rest : List ℕ) → Values second_line order s rest → ⊥
  pub place : start ≡ length (line_of (map column_name (columns order)))

-- the first question about the two lines that is answered no
abbrev pub FaultyJob : List ℕ → JobFault → Type 0
FaultyJob input fault.TooLong = 8192 < length input
FaultyJob input fault.Names = (length input ≤ 8192) × ((order : Order) (rest : List ℕ) → Names input order rest → ⊥)
FaultyJob input (fault.Values start) = NoValues input start
