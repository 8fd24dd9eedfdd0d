-- Laws of the form of a line of a section. Assumes nothing.
use Rattle.std.specs.declared.option.Option.{Option}
use Rattle.std.specs.declared.option.Option.TheVariants.{Some, None}
use lib.IntN.{ℤ}
use mathlib.Core.Path.{◌≡◌, refl, sym, ap, ◌∙◌}
use mathlib.Core.Logic.{⊎_elim}
use mathlib.Core.Bool.{Bool, true, false, ◌&&◌}
use mathlib.Core.List.{List, [], ◌∷◌}
use Prim.Native.Nat.{ℕ, zero, suc, ◌+◌, ◌-◌, ◌≤◌, ◌<◌}
use native.Mathlib.Omega.{arith}
use native.Mathlib.Numerals.{add-one}
use lib.Dec.{eqb, leb}
use lib.ListN.{length, take, drop, drop_of_length-le}
use lib.Seq.{drop-cons, drop-drop}
use borrow.Author.Tests.{eq-eqb, ne_eqb}
use native.Mathlib.Decide.{ℕ_discrete}
use Rattle.integer.proofs.Ranges.{lt_or_ge}
use Rattle.std.specs.List.{list_all}
use Rattle.std.proofs.lemmas.List.Recursion.{same_from_clauses}
use Rattle.text_parts.specs.Parts.{parts, before}
use Rattle.text_parts.proofs.Parts.{parts-one, parts_more, before_le, lacks_or_has, parts-end, parts-front}
use Rattle.arpa_logs.specs.Logs.{read_points}
use Rattle.arpa_logs.proofs.Logs.{points_lack}
use Rattle.arpa_text.specs.Lines.{all_above, is_text, are_texts, listed_with, listed_in, read_row}
use Rattle.arpa_text.specs.Held.{backoff_behind}

-- ---- texts

abbrev is_above : ℕ → Bool
is_above c = leb 33 c

pub all_above_list : (text : List ℕ) → all_above text ≡ list_all is_above text
unfolding all_above
all_above_list = same_from_clauses all_above (list_all is_above) (λ c b. is_above c && b) refl (λ _ _. refl) (λ _ _. refl)

-- there is always a part more
pub no-texts : (text : List ℕ) → are_texts 0 (parts 32 text) ≡ false
unfolding are_texts
no-texts text =
    ⊎_elim (λ h. rw (parts-one 32 text h) refl) (λ h. rw (parts_more 32 text h) refl) (lacks_or_has 32 text)

module _ (left : ℕ) (text : List ℕ) (place : ℕ) (e : place ≡ before 32 text) where
  pub last-text : place ≡ length text → is_text (take place text) ≡ true → are_texts (suc left) (parts 32 text) ≡ eqb left 0
  unfolding are_texts
  last-text h f = rw (parts-end 32 text place e h, f) (none_left left)
    where
      none_left : (n : ℕ) → are_texts n [] ≡ eqb n 0
      none_left zero = refl
      none_left (suc n) = sym (ne_eqb (suc n) 0 (λ z. omega arith))

  pub next-text : place < length text → is_text (take place text) ≡ true → are_texts (suc left) (parts 32 text) ≡ are_texts left (parts 32 (drop (place + 1) text))
  unfolding are_texts
  next-text h f = rw (parts-front 32 text place e h, f) refl

  pub no_text : place ≤ length text → is_text (take place text) ≡ false → are_texts (suc left) (parts 32 text) ≡ false
  unfolding are_texts
  no_text h f =
      ⊎_elim
      (λ l. rw (parts-front 32 text place e l, f) refl)
      (λ l. rw (parts-end 32 text place e (omega arith), f) refl)
      (lt_or_ge place (length text))

-- whether text k is the last of m
pub last_of : (k m : ℕ) → k < m → eqb (k + 1) m ≡ eqb (m - (k + 1)) 0
last_of k m h = go (ℕ_discrete (k + 1) m)
  where
    go : Dec (k + 1 ≡ m) → eqb (k + 1) m ≡ eqb (m - (k + 1)) 0
    go (yes e) = eq-eqb (k + 1) m e ∙ sym (eq-eqb (m - (k + 1)) 0 (omega arith))
    go (no n) = ne_eqb (k + 1) m n ∙ sym (ne_eqb (m - (k + 1)) 0 (λ z. n (omega arith)))

-- ---- a row

pub no-backoff : (m : ℕ) (p : Option ℤ) (texts : List (List ℕ)) → listed_with m p texts None ≡ None
no-backoff m (Some p) texts = refl
no-backoff m None texts = refl

-- more than three fields make no row
two_logs : (m : ℕ) (p words rest : List ℕ) → listed_in m (p ∷ words ∷ parts 9 rest) ≡ listed_with m (read_points p) (parts 32 words) (read_points rest)
unfolding listed_in
two_logs m p words rest =
    ⊎_elim
    (λ h. rw (parts-one 9 rest h) refl)
    (λ h. rw (points_lack rest h, no-backoff, parts_more 9 rest h) (more (take (before 9 rest) rest) (drop (before 9 rest + 1) rest)))
    (lacks_or_has 9 rest)
  where
    more : (b behind : List ℕ) → listed_in m (p ∷ words ∷ b ∷ parts 9 behind) ≡ None
    more b behind =
        ⊎_elim (λ h. rw (parts-one 9 behind h) refl) (λ h. rw (parts_more 9 behind h) refl) (lacks_or_has 9 behind)

-- a line behind its first tab: the words, and what stands behind them
pub row_fields : (m : ℕ) (p rest : List ℕ) (place : ℕ) → place ≡ before 9 rest → place ≤ length rest
    → listed_in m (p ∷ parts 9 rest) ≡ listed_with m (read_points p) (parts 32 (take place rest)) (backoff_behind (drop place rest))
unfolding listed_in backoff_behind
row_fields m p rest place e l =
    ⊎_elim
    (λ h. rw (parts-front 9 rest place e h, drop-cons rest place 0 h, ← add-one place) (two_logs m p (take place rest) (drop (place + 1) rest)))
    (λ h. rw (parts-end 9 rest place e (omega arith), drop_of_length-le rest h) refl)
    (lt_or_ge place (length rest))

pub no_row : (m : ℕ) (line : List ℕ) → before 9 line ≡ length line → listed_in m (parts 9 line) ≡ None
unfolding listed_in
no_row m line h = rw (parts-one 9 line h) refl

-- a line with a tab: what stands before it, the words up to `to`, and what stands behind them
pub row_read : (m : ℕ) (line : List ℕ) (tab to : ℕ) → tab ≡ before 9 line → tab < length line → to ≡ tab + 1 + before 9 (drop (tab + 1) line)
    → read_row m line ≡ listed_with m (read_points (take tab line)) (parts 32 (take (to - (tab + 1)) (drop (tab + 1) line))) (backoff_behind (drop to line))
unfolding read_row
row_read m line tab to e h t =
    let rest = drop (tab + 1) line in
    let place : to - (tab + 1) ≡ before 9 rest = omega arith in
    let there : to ≡ tab + 1 + (to - (tab + 1)) = omega arith in
    ap (listed_in m) (parts-front 9 line tab e h)
    ∙ row_fields m (take tab line) rest (to - (tab + 1)) place (let l = before_le 9 rest in omega arith)
    ∙ ap (λ (l : List ℕ). listed_with m (read_points (take tab line)) (parts 32 (take (to - (tab + 1)) rest)) (backoff_behind l))
    (drop-drop (to - (tab + 1)) (tab + 1) line ∙ ap (λ (n : ℕ). drop n line) (sym there))
