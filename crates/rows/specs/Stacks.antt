-- The candidates of a row: points that may be nearest somewhere, each from its start on, the latest on top.
-- The stack holds the latest last: what is said of them from the top down is said of `reverse s`.
use Rattle.std.specs.Prelude.{◌≡◌, ℕ, ◌+◌, ◌<◌, ◌≤◌, ◌⊎◌, List, [], ◌∷◌, ◌++◌, length, reverse}
use Rattle.std.specs.List.{AllByRecursion}
use Rattle.grid.specs.declared.cell.Cell.{Cell}
use Rattle.grid.specs.Rows.{NearOn, Offers, offer_cost}
use Rattle.rules.specs.Ranges.{Crosses}
use Rattle.rows.specs.declared.candidate.Candidate.{Candidate}

-- what the candidate costs at the place t
abbrev pub cost_of : NearOn → Candidate → ℕ → ℕ
cost_of near c t = near c.place t c.value

-- from the place t on c is no farther than b, and before t it is farther
abbrev pub Overtakes : NearOn → Candidate → Candidate → ℕ → Type 0
Overtakes near b c = Crosses (cost_of near b) (cost_of near c)

-- c may lie on b: it stands later, and starts at the lowest place at which it is no farther
pub record Follows (near : NearOn) (b c : Candidate) : Type 0 where
  pub later : b.place < c.place
  pub starts_later : b.start < c.start
  pub crossed : Overtakes near b c c.start

-- each candidate follows the one below it, and the lowest starts at 0
abbrev pub LinedUp : NearOn → List Candidate → Type 0
LinedUp near [] = Unit {0}
LinedUp near (c ∷ []) = c.start ≡ 0
LinedUp near (c ∷ b ∷ st) = Follows near b c × LinedUp near (b ∷ st)

-- some candidate costs at most v at the place t
abbrev pub Covers : NearOn → List Candidate → ℕ → ℕ → Type 0
Covers near [] t v = ⊥
Covers near (c ∷ st) t v = (cost_of near c t ≤ v) ⊎ Covers near st t v

-- the candidate stands at a place below j and carries at most `most`
pub record Within (most j : ℕ) (c : Candidate) : Type 0 where
  pub before : c.place < j
  pub carried : c.value ≤ most

-- the candidate is an offer of the row, from a place below j
pub record StandsFor (n : ℕ) (row : ℕ → Cell) (j : ℕ) (c : Candidate) : Type 0 where
  pub before : c.place < j
  pub offer : Offers n row c.place c.point
  pub value : c.value ≡ (row c.place).value

-- the candidate, serving from the place t on
abbrev pub moved_to : Candidate → ℕ → Candidate
moved_to c t = record { place = c.place; start = t; point = c.point; value = c.value }

-- the candidates of `kept` are the lowest of s
abbrev pub IsBottom : List Candidate → List Candidate → Type 0
IsBottom kept s = (left : List Candidate) × (s ≡ kept ++ left)

-- `kept` of the candidates are left below the new one, which lies on them from `start` on; nothing is lost by that
pub record Settled (near : NearOn) (s : List Candidate) (new : Candidate) (kept : List Candidate) (start : ℕ) : Type 0 where
  pub bottom : IsBottom kept s
  pub lined : LinedUp near (moved_to new start ∷ reverse kept)
  pub covers : (t v : ℕ) → t < 1023 → Covers near (new ∷ reverse s) t v → Covers near (new ∷ reverse kept) t v

-- what is left of the stack, with the new candidate on it or not
pub record Added (near : NearOn) (n : ℕ) (s : List Candidate) (new : Candidate) (s' : List Candidate) : Type 0 where
  pub few : length s' ≤ length s + 1
  pub lined : LinedUp near (reverse s')
  pub only : (kept : List Candidate) × (start : ℕ) × IsBottom kept s × ((s' ≡ kept) ⊎ (s' ≡ kept ++ moved_to new start ∷ []))
  pub covers : (t v : ℕ) → t < n → Covers near (new ∷ reverse s) t v → Covers near (reverse s') t v

-- the candidates of the places of the row below j: at each place of the row one of them is as good as any offer from there
pub record Gathered (near : NearOn) (n : ℕ) (row : ℕ → Cell) (j : ℕ) (s : List Candidate) : Type 0 where
  pub few : length s ≤ j
  pub lined : LinedUp near (reverse s)
  pub points : AllByRecursion (StandsFor n row j) (reverse s)
  pub covers : (i p t : ℕ) → i < j → Offers n row i p → t < n → Covers near (reverse s) t (offer_cost near row i t)
