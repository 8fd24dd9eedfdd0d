-- The history, as the code holds it, is the newest n − 1 of all the preceding words, and the rule after it is the rule after all of these. Assumes nothing.
use mathlib.Core.Path.{◌≡◌, refl, sym, ap, ◌∙◌}
use mathlib.Core.Bool.{Bool, true, false, cond}
use mathlib.Core.List.{List, [], ◌∷◌, ◌++◌, map, reverse}
use Prim.Native.Nat.{ℕ, zero, suc, ◌+◌, ◌≤◌, min}
use native.Mathlib.Omega.{arith}
use lib.ListN.{length, take, drop, length-map}
use lib.Seq.{take-take}
use lib.Dec.{eqb}
use lib.IntN.{pos}
use Rattle.integer.specs.Integer.{between, up_to}
use Rattle.backoff.specs.Limits.{start_word, end_word}
use Rattle.backoff.specs.Words.{is_word, are_words}
use Rattle.backoff.specs.Model.{Model, AcceptedModel, reach}
use Rattle.backoff.specs.Rule.{replaced, score_after, text_rule, history_length, rule, grow}
use Rattle.backoff.specs.Run.{front}
use Rattle.backoff.proofs.Rule.{score_after-is-text_rule}
use Rattle.rows.specs.Table.{words_of}
use Rattle.plain_word.proofs.Words.{replaced-known, replaced-is-word}
use Rattle.plain_history.specs.declared.Recent.{Recent}
use Rattle.plain_history.specs.History.{IsRecent, in_use, first_history, pushed}
use Rattle.plain_history.proofs.Newest.{history-length, history-newest, newest_shifted, length_shifted, shifted_are_words}

-- the places hold the newest of the preceding words h, each replaced: as many as a history may have
pub record Holds (M : Model) (r : Recent) (h : List ℕ) : Type 0 where
  pub places : IsRecent r
  pub whole : r.count ≡ min (reach M) (length h)
  pub newest : take r.count (reverse (words_of r.words)) ≡ take r.count (map (replaced M) h)

-- one word more
newest-more : (v c k : ℕ) (l g : List ℕ) → k ≤ 4 → k ≤ c + 1 → take c l ≡ take c g → take k (v ∷ take 3 l) ≡ take k (v ∷ g)
newest-more v c zero l g p q e = refl
newest-more v c (suc k) l g p q e =
    ap (λ (t : List ℕ). v ∷ t) (take-take k 3 l (omega arith) ∙ sym (take-take k c l (omega arith)) ∙ ap (take k) e ∙ take-take k c g (omega arith))

module _ {M : Model} (A : AcceptedModel M) where
  begun-newest : (k : ℕ) → k ≤ 1 → take k (start_word ∷ start_word ∷ start_word ∷ start_word ∷ []) ≡ take k (replaced M start_word ∷ [])
  begun-newest zero l = refl
  begun-newest (suc zero) l = ap (λ (v : ℕ). v ∷ []) (sym (replaced-known M start_word A.start-listed))
  begun-newest (suc (suc k)) l = absurd (omega arith)

  pub begun-holds : (b : Bool) → Holds M (first_history (reach M) b) (front b)
  unfolding first_history front words_of are_words is_word up_to between
  begun-holds true = record {
    places = record { four = refl; are_words_lem = refl; few = omega arith };
    whole = refl;
    newest = begun-newest (min (reach M) 1) (omega arith);
  }
  begun-holds false = record {
    places = record { four = refl; are_words_lem = refl; few = omega arith };
    whole = omega arith;
    newest = refl;
  }

  module _ {r : Recent} {h : List ℕ} (o : Holds M r h) (w : ℕ) where
    -- the word's score after the history is its score after all that precede it
    pub rule-held : text_rule M (in_use r) (replaced M w) ≡ rule M h w
    unfolding rule history_length
    rule-held =
        sym (score_after-is-text_rule M (in_use r) g (replaced M w) (rw size (sym o.newest ∙ sym (history-newest r o.places))))
        ∙ ap (λ (k : ℕ). score_after M k g (replaced M w)) (size ∙ o.whole ∙ rw length-map)
      where
        g : List ℕ
        g = map (replaced M) h

        size : length (in_use r) ≡ r.count
        size = history-length r o.places

    abbrev more : Recent
    more = record { words = drop 1 r.words ++ (pos (replaced M w) ∷ []); count = min (reach M) (r.count + 1) }

    more-holds : Holds M more (w ∷ h)
    more-holds =
        let v = replaced M w in
        let a = replaced-is-word M w A in
        let four = o.places.four in
        let most : reach M ≤ 4 = unfold reach in omega (arith, A.order-high) in
        record {
          places = record {
            four = length_shifted r.words v four a;
            are_words_lem = shifted_are_words r.words v four a o.places.are_words_lem;
            few = omega (arith, most);
          };
          whole = omega (arith, o.whole);
          newest =
              rw (newest_shifted r.words v four a)
              (newest-more v r.count (min (reach M) (r.count + 1)) (reverse (words_of r.words)) (map (replaced M) h) (omega (arith, most)) (omega arith) o.newest);
        }

    pub pushed-holds : Holds M (pushed (reach M) r w (pos (replaced M w))) (grow M h w)
    unfolding pushed grow front
    pushed-holds = go (eqb w end_word)
      where
        go : (b : Bool) → Holds M (cond b (first_history (reach M) true) more) (cond b (start_word ∷ []) (w ∷ h))
        go true = begun-holds true
        go false = more-holds
