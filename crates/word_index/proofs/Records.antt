-- Laws of a store in which one record is written. Assumes nothing.
use mathlib.Core.Path.{◌≡◌, refl, sym, ap, ◌∙◌}
use mathlib.Core.List.{List, ◌∷◌, ◌++◌, append_assoc}
use Prim.Native.Nat.{ℕ, suc, ◌+◌, ◌*◌, ◌<◌, ◌≤◌}
use native.Mathlib.Omega.{arith}
use native.Mathlib.Numerals.{add-one}
use lib.ListN.{length, get_or, take, drop, set}
use lib.Seq.{length-take-le, drop-cons, get_or-take, sets, sets-eq, length-sets, take_at, drop_at, get_or_at, drop-drop, take-append_seam}
use Rattle.integer.proofs.Parts.{front_part}
use Rattle.word_index.specs.Texts.{text_of, recorded}
use Rattle.backoff.specs.Limits.{text_limit}

pub sets-start : (s : List ℕ) (a : ℕ) (text : List ℕ) → sets s a text ≡ sets s (a + 0) (drop 0 text)
sets-start s a text = let e : a + 0 ≡ a = omega arith in rw e refl

pub sets-step : (s : List ℕ) (a : ℕ) (text : List ℕ) (i : ℕ) → i < length text → sets s (a + i) (drop i text) ≡ sets (set s (a + i) (get_or text i 0)) (a + (i + 1)) (drop (i + 1) text)
sets-step s a text i h =
    let e : a + (i + 1) ≡ suc (a + i) = omega arith in
    let f : i + 1 ≡ suc i = omega arith in
    rw (e, f) (ap (λ (l : List ℕ). sets s (a + i) l) (drop-cons text i 0 h))

module _ (s : List ℕ) (k : ℕ) (text : List ℕ) (room : 64 * k + 64 ≤ length s) (short : length text ≤ text_limit) where
  fits : 64 * k + length (length text ∷ text) ≤ length s
  fits = omega arith

  front_length : length (take (64 * k) s) ≡ 64 * k
  front_length = length-take-le (64 * k) s (omega arith)

  behind : List ℕ
  behind = drop (64 * k + length (length text ∷ text)) s

  record_is : recorded s k text ≡ take (64 * k) s ++ (length text ∷ (text ++ behind))
  unfolding recorded behind
  record_is = append_assoc (take (64 * k) s) (length text ∷ text) (drop (64 * k + length (length text ∷ text)) s)

  pub record_written : sets (set s (64 * k) (length text)) (64 * k + 1) text ≡ recorded s k text
  unfolding recorded
  record_written = rw (add-one (64 * k)) (sets-eq (length text ∷ text) s (64 * k) fits)

  pub record_length : length (recorded s k text) ≡ length s
  record_length = ap length (sym record_written) ∙ rw (add-one (64 * k)) (length-sets s (64 * k) (length text ∷ text))

  record_front : take (64 * k) (recorded s k text) ≡ take (64 * k) s
  record_front = ap (take (64 * k)) record_is ∙ take_at (take (64 * k) s) (length text ∷ (text ++ behind)) (64 * k) front_length

  pub byte_new : get_or (recorded s k text) (64 * k) 0 ≡ length text
  byte_new = ap (λ (l : List ℕ). get_or l (64 * k) 0) record_is ∙ get_or_at (take (64 * k) s) (length text) (text ++ behind) 0 (64 * k) front_length

  pub byte_kept : (i : ℕ) → i < 64 * k → get_or (recorded s k text) i 0 ≡ get_or s i 0
  byte_kept i h = sym (get_or-take (64 * k) (recorded s k text) i 0 h) ∙ ap (λ (l : List ℕ). get_or l i 0) record_front ∙ get_or-take (64 * k) s i 0 h

  pub text-new : text_of (recorded s k text) k ≡ text
  unfolding text_of
  text-new =
      rw byte_new
      (ap (take (length text))
      (sym (drop-drop 1 (64 * k) (recorded s k text))
      ∙ ap (drop 1) (ap (drop (64 * k)) record_is ∙ drop_at (take (64 * k) s) (length text ∷ (text ++ behind)) (64 * k) front_length))
      ∙ take-append_seam text behind)

  pub text-kept : (j : ℕ) → j < k → get_or s (64 * j) 0 ≤ text_limit → text_of (recorded s k text) j ≡ text_of s j
  unfolding text_of
  text-kept j h l =
      rw (byte_kept (64 * j) (omega arith))
      (sym (front_part (recorded s k text) (64 * k) (64 * j + 1) (get_or s (64 * j) 0) (omega arith))
      ∙ ap (λ (x : List ℕ). take (get_or s (64 * j) 0) (drop (64 * j + 1) x)) record_front
      ∙ front_part s (64 * k) (64 * j + 1) (get_or s (64 * j) 0) (omega arith))
