-- A call's refusals as the table of document 01 has them: each number with its condition, in the order in which they are tried; and which of them a call
-- returns. Assumes nothing.
use Rattle.std.specs.Prelude.{◌≡◌, ◌⊎◌, List, [], ◌∷◌, ℕ, suc, ◌<◌}

-- "Returned: number and place" and "When": the number, and what must hold for it to be returned with a place
pub record Line : Type 1 where
  pub number : ℕ
  pub meets : ℕ → Type 0

infix 68 ◌when◌
-- a line with place 0
abbrev pub ◌when◌ : ℕ → Type 0 → Line
number when condition = record { number = number; meets = λ place. (place ≡ 0) × condition }

infix 68 ◌at◌
-- a line whose place says which item the condition holds of: places are counted from 1, items from 0
abbrev pub ◌at◌ : ℕ → (ℕ → Type 0) → Line
number at condition = record { number = number; meets = λ place. (i : ℕ) × (place ≡ suc i) × condition i }

-- a line is passed: no place meets it
pub record NotMet (c : Line) : Type 0 where
  pub nowhere : (p : ℕ) → c.meets p → ⊥

-- it is what is returned, with the first place that meets it
pub record Returned (c : Line) (number place : ℕ) : Type 0 where
  pub number_is : number ≡ c.number
  pub met : c.meets place
  pub first : (p : ℕ) → p < place → c.meets p → ⊥

-- Number and place are those of the first line that is met, and 0 and 0 where none is.
abbrev pub FirstMet : List Line → ℕ → ℕ → Type 0
FirstMet [] number place = (number ≡ 0) × (place ≡ 0)
FirstMet (c ∷ cs) number place = Returned c number place ⊎ (NotMet c × FirstMet cs number place)
