-- A row that the search found, or found missing, is what the model has of the sequence. Assumes nothing.
use Rattle.std.specs.declared.option.Option.{Option}
use Rattle.std.specs.declared.option.Option.TheVariants.{Some, None}
use mathlib.Core.Path.{◌≡◌, refl, ap}
use mathlib.Core.Bool.{true, false}
use mathlib.Core.List.{List, [], ◌∷◌, ◌++◌, reverse, reverse-append, reverse-reverse}
use Prim.Native.Nat.{ℕ}
use lib.IntN.{ℤ, pos}
use Rattle.backoff.specs.Model.{listed, probability, backoff, extended}
use Rattle.row_search.specs.declared.Row.{Row}
use Rattle.row_search.specs.Search.{find_in, found_row}
use Rattle.row_search.proofs.Search.{found-words}
use Rattle.list.specs.ListModel.{extended_in, model_of}
use Rattle.plain_word.specs.Score.{IsExtended}

-- what a row says of the sequence l, newest word first
pub record IsRow (t : List ℤ) (l : List ℕ) (row : Row) : Type 0 where
  pub is_listed : listed (model_of t) l ≡ true
  pub p-is : row.p ≡ probability (model_of t) l
  pub b-is : row.b ≡ backoff (model_of t) l
  pub at-is : IsExtended t row.at (extended (model_of t) l)

-- the same of what was found of it, which may be no row
abbrev Says : List ℤ → List ℕ → Option Row → Type 0
Says t l (Some row) = IsRow t l row
Says t l None = (listed (model_of t) l ≡ false) × (backoff (model_of t) l ≡ pos 0)

module _ (t : List ℤ) (ws : List ℕ) where
  says : Says t (reverse ws) (found_row t (find_in t ws))
  unfolding listed probability backoff extended model_of found_row
  says = go (find_in t ws) refl
    where
      go : (f : Option ℕ) → find_in t ws ≡ f → Says t (reverse ws) (found_row t f)
      go (Some i) e =
          let w = found-words t ws i e in
          record {
            is_listed = rw (reverse-reverse ws, e) refl;
            p-is = rw (reverse-reverse ws, e) refl;
            b-is = rw (reverse-reverse ws, e) refl;
            at-is = rw (reverse-reverse ws, e) (record { within = w.0; extended-is = ap (extended_in t) w.1 });
          }
      go None e = (rw (reverse-reverse ws, e) refl, rw (reverse-reverse ws, e) refl)

  pub row-some : {row : Row} → Some row ≡ found_row t (find_in t ws) → IsRow t (reverse ws) row
  row-some e = rw (← e) at says

  pub row-none : None ≡ found_row t (find_in t ws) → (listed (model_of t) (reverse ws) ≡ false) × (backoff (model_of t) (reverse ws) ≡ pos 0)
  row-none e = rw (← e) at says

-- of the history h, oldest word first, followed by the word v
module _ (t : List ℤ) (h : List ℕ) (v : ℕ) where
  pub with-some : {row : Row} → Some row ≡ found_row t (find_in t (h ++ (v ∷ []))) → IsRow t (v ∷ reverse h) row
  with-some e = rw (← reverse-append h (v ∷ [])) (row-some t (h ++ (v ∷ [])) e)

  pub with-none : None ≡ found_row t (find_in t (h ++ (v ∷ []))) → listed (model_of t) (v ∷ reverse h) ≡ false
  with-none e = rw (← reverse-append h (v ∷ [])) (row-none t (h ++ (v ∷ [])) e).0
