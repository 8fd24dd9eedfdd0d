-- One misheard word by the rule, as far as it can move a total: (3n − 2) × the largest back-off. The back-offs of a history are paid once: a word leaves at most as many
-- as its row has words, and once both histories have backed off to the words that they share, nothing shows. Assumes nothing.
use mathlib.Core.Path.{◌≡◌, refl, sym, ap, ap₂, ◌∙◌}
use mathlib.Core.Logic.{◌⊎◌, inl, inr}
use mathlib.Core.Bool.{Bool, true, false}
use mathlib.Core.List.{List, [], ◌∷◌, ◌++◌, map}
use Prim.Native.Nat.{ℕ, zero, suc, ◌+◌, ◌*◌, ◌-◌, ◌≤◌, ◌<◌, min, max}
use native.Mathlib.Decide.{dec_le}
use native.Mathlib.Omega.{arith}
use lib.ListN.{length, take, drop, get_or, length-map}
use lib.Seq.{take-suc}
use lib.IntN.{ℤ, ◌+ℤ◌, ◌-ℤ◌}
use lib.Dec.{eqb}
use Rattle.integer.specs.Integer.{sum}
use Rattle.integer.proofs.Arithmetic.{up, down, abs, add, sub}
use Rattle.backoff.specs.Limits.{start_word, end_word, largest_backoff}
use Rattle.backoff.specs.Model.{Model, AcceptedModel, listed, probability, backoff, live, reach}
use Rattle.backoff.specs.Rule.{Score, add_points, replaced, score_after, history_length, rule, grow, rule_points}
use Rattle.backoff.specs.State.{largest}
use Rattle.backoff.proofs.Climb.{largest_passes}
use Rattle.backoff.proofs.Model.{dead_backoff, unlisted_dead, dead_end}
use Rattle.backoff.proofs.Rule.{add_points-zero, take-map, score_after-here, score_after-down, matched_history, matched_history_le, matched_history_longest, matched_history_here, matched_history_down, rule_local}
use Rattle.backoff.proofs.Locality.{take-fewer, grow-alike}
use Rattle.backoff.proofs.Sizes.{backoff-size}
use Rattle.one_word.specs.OneWord.{DifferAt, distance, closer_move}
use Rattle.one_word.proofs.OneWord.{probability_window, same_close, split_first, split_second}

-- ---- distances

apart-behind : (b x y : ℤ) (k : ℕ) → (up b ≤ down b + largest_backoff) × (down b ≤ up b + largest_backoff) → distance x y ≤ k → distance (b +ℤ x) y ≤ largest_backoff + k
apart-behind b x y k s h = omega (arith, add b x, sub (b +ℤ x) y, sub x y, abs ((b +ℤ x) -ℤ y), abs (x -ℤ y), s)

apart-same : (b x y : ℤ) (k : ℕ) → distance x y ≤ k → distance (b +ℤ x) (b +ℤ y) ≤ k
apart-same b x y k h = omega (arith, add b x, add b y, sub (b +ℤ x) (b +ℤ y), sub x y, abs ((b +ℤ x) -ℤ (b +ℤ y)), abs (x -ℤ y))

apart-both : (a b x y : ℤ) (k l : ℕ) → distance a b ≤ k → distance x y ≤ l → distance (a +ℤ x) (b +ℤ y) ≤ k + l
apart-both a b x y k l h g = omega (arith, add a x, add b y, sub (a +ℤ x) (b +ℤ y), sub a b, sub x y, abs ((a +ℤ x) -ℤ (b +ℤ y)), abs (a -ℤ b), abs (x -ℤ y))

apart_turned : (x y : ℤ) (k : ℕ) → distance x y ≤ k → distance y x ≤ k
apart_turned x y k h = omega (arith, sub x y, sub y x, abs (x -ℤ y), abs (y -ℤ x))

-- by way of two numbers that they lie near
apart_by : (x y a b : ℤ) (k l m : ℕ) → distance x a ≤ k → distance y b ≤ l → distance a b ≤ m → distance x y ≤ k + l + m
apart_by x y a b k l m h g f = omega (arith, sub x y, sub x a, sub y b, sub a b, abs (x -ℤ y), abs (x -ℤ a), abs (y -ℤ b), abs (a -ℤ b))

module _ (M : Model) where
  -- the k newest words are all that is read of a history
  score_after-newest : (k : ℕ) (g h : List ℕ) (v : ℕ) → take k g ≡ take k h → score_after M k g v ≡ score_after M k h v
  unfolding score_after
  score_after-newest zero g h v e = refl
  score_after-newest (suc k) g h v e = rw (e, score_after-newest k g h v (take-fewer k (suc k) g h (omega arith) e))

  points_by-length : (h : List ℕ) (w : ℕ) → (rule M h w).points ≡ (score_after M (min (reach M) (length h)) (map (replaced M) h) (replaced M w)).points
  unfolding rule history_length
  points_by-length h w = ap (λ (l : ℕ). (score_after M (min (reach M) l) (map (replaced M) h) (replaced M w)).points) (length-map h (replaced M))

  points-here : (k : ℕ) (g : List ℕ) (v : ℕ) → listed M (v ∷ take k g) ≡ true → (score_after M k g v).points ≡ probability M (v ∷ take k g)
  points-here zero g v e = unfold score_after in refl
  points-here (suc k) g v e = ap (λ (s : Score). s.points) (score_after-here M k g v e)

  points-down : (k : ℕ) (g : List ℕ) (v : ℕ) → listed M (v ∷ take (suc k) g) ≡ false → (score_after M (suc k) g v).points ≡ backoff M (take (suc k) g) +ℤ (score_after M k g v).points
  unfolding add_points
  points-down k g v e = ap (λ (s : Score). s.points) (score_after-down M k g v e)

  -- no live row of more than c words, and of fewer than n, ends the history g
  abbrev LiveTo : ℕ → List ℕ → Type 0
  LiveTo c g = (l : ℕ) → c < l → l ≤ reach M → l ≤ length g → live M (take l g) ≡ false

module _ (M : Model) (A : AcceptedModel M) where
  listed-fewer : (g : List ℕ) (v i k : ℕ) → i ≤ k → k ≤ length g → listed M (v ∷ take k g) ≡ true → listed M (v ∷ take i g) ≡ true
  listed-fewer g v i zero l h e = let z : i ≡ 0 = omega arith in rw z e
  listed-fewer g v i (suc k) l h e = go (dec_le i k) (λ q. listed-fewer g v i k q (omega arith))
    where
      go : Dec (i ≤ k) → (i ≤ k → listed M (v ∷ take k g) ≡ true → listed M (v ∷ take i g) ≡ true) → listed M (v ∷ take i g) ≡ true
      go (yes q) ih = ih q (A.without_first_lem v (take k g) (get_or g k 0) (rw (take-suc g k 0 (omega arith)) at e))
      go (no q) ih = let z : i ≡ suc k = omega arith in rw z e

  probabilities_close : (l r : List ℕ) → distance (probability M l) (probability M r) ≤ largest_backoff
  probabilities_close l r =
      omega (arith, sub (probability M l) (probability M r), abs (probability M l -ℤ probability M r), probability_window _ (A.in_probability_lem l), probability_window _ (A.in_probability_lem r))

  -- ---- one word after one history

  -- each older word costs one back-off at most
  older_words : (g : List ℕ) (v i k : ℕ) → i ≤ k → k ≤ length g → distance (score_after M k g v).points (score_after M i g v).points ≤ (k - i) * largest_backoff
  older_words g v i zero l h = same_close _ {a = (score_after M 0 g v).points} (ap (λ (m : ℕ). (score_after M m g v).points) (let z : 0 ≡ i = omega arith in z))
  older_words g v i (suc k) l h = go (dec_le i k) (λ q. older_words g v i k q (omega arith)) (listed M (v ∷ take (suc k) g)) refl
    where
      shorter : ℤ
      shorter = (score_after M i g v).points

      go : Dec (i ≤ k) → (i ≤ k → distance (score_after M k g v).points shorter ≤ (k - i) * largest_backoff) → (b : Bool) → listed M (v ∷ take (suc k) g) ≡ b → distance (score_after M (suc k) g v).points shorter ≤ (suc k - i) * largest_backoff
      go (no q) ih b e = same_close _ {a = (score_after M (suc k) g v).points} (ap (λ (m : ℕ). (score_after M m g v).points) (let z : suc k ≡ i = omega arith in z))
      go (yes q) ih true e =
          rw (points-here M (suc k) g v e, points-here M i g v (listed-fewer g v i (suc k) l h e))
          (omega (arith, probabilities_close (v ∷ take (suc k) g) (v ∷ take i g)))
      go (yes q) ih false e =
          rw (points-down M k g v e)
          (omega (arith, apart-behind (backoff M (take (suc k) g)) (score_after M k g v).points shorter ((k - i) * largest_backoff) (backoff-size _ (A.in_backoff_lem (take (suc k) g))) (ih q)))

  -- words that are older than the longest live row cost nothing
  past-live : (g : List ℕ) (v c k : ℕ) → LiveTo M c g → c ≤ k → k ≤ reach M → k ≤ length g → (score_after M k g v).points ≡ (score_after M c g v).points
  past-live g v c zero f l r h = ap (λ (m : ℕ). (score_after M m g v).points) (let z : 0 ≡ c = omega arith in z)
  past-live g v c (suc k) f l r h = go (dec_le c k) (λ q. past-live g v c k f q (omega arith) (omega arith))
    where
      go : Dec (c ≤ k) → (c ≤ k → (score_after M k g v).points ≡ (score_after M c g v).points) → (score_after M (suc k) g v).points ≡ (score_after M c g v).points
      go (no q) ih = ap (λ (m : ℕ). (score_after M m g v).points) (let z : suc k ≡ c = omega arith in z)
      go (yes q) ih =
          let d = f (suc k) (omega arith) r h in
          ap (λ (s : Score). s.points) (score_after-down M k g v (dead_end M A g v (suc k) (omega arith) h d) ∙ ap (λ (z : ℤ). add_points z (score_after M k g v)) (dead_backoff M (take (suc k) g) d) ∙ add_points-zero (score_after M k g v))
          ∙ ih q

  -- the row of v that is used, or the one of the newest i words where that is longer
  abbrev settled_at : ℕ → ℕ → List ℕ → ℕ → ℕ
  settled_at i c g v = max i (matched_history M c g v)

  -- no live row is longer once v is scored
  next-live : (i c : ℕ) (g : List ℕ) (v : ℕ) → LiveTo M c g → LiveTo M (suc (settled_at i c g v)) (v ∷ g)
  next-live i c g v f zero l r h = absurd (omega arith)
  next-live i c g v f (suc l) k r h = unlisted_dead M (v ∷ take l g) (go (dec_le l c))
    where
      go : Dec (l ≤ c) → listed M (v ∷ take l g) ≡ false
      go (yes q) = matched_history_longest M c g v l (omega arith) q
      go (no q) = dead_end M A g v l (omega arith) (omega arith) (f l (omega arith) (omega arith) (omega arith))

  matched-row : (c : ℕ) (g : List ℕ) (v : ℕ) → 1 ≤ matched_history M c g v → listed M (v ∷ take (matched_history M c g v) g) ≡ true
  unfolding matched_history
  matched-row c g v o = go (largest_passes (λ i. listed M (v ∷ take i g)) c)
    where
      go : (largest (λ i. listed M (v ∷ take i g)) c ≡ 0) ⊎ (listed M (v ∷ take (largest (λ i. listed M (v ∷ take i g)) c) g) ≡ true) → listed M (v ∷ take (largest (λ i. listed M (v ∷ take i g)) c) g) ≡ true
      go (inl z) = absurd (omega arith)
      go (inr e) = e

  settled_row : (i c : ℕ) (g : List ℕ) (v : ℕ) → i < settled_at i c g v → listed M (v ∷ take (settled_at i c g v) g) ≡ true
  settled_row i c g v o = let e : settled_at i c g v ≡ matched_history M c g v = omega arith in rw e (matched-row c g v (omega arith))

  -- ---- one word after two histories that share their newest i words

  module _ (i : ℕ) (g f : List ℕ) (v : ℕ) (e : take i g ≡ take i f) where
    -- where the one has used a longer row, the other has one of the shared words
    longer-near : (m k : ℕ) → i ≤ m → i ≤ k → m ≤ length g → (i < m → listed M (v ∷ take m g) ≡ true) → (i < k → listed M (v ∷ take k f) ≡ true) → i < m → distance (score_after M m g v).points (score_after M k f v).points ≤ largest_backoff
    longer-near m k a b h s t o = go (dec_le k i)
      where
        shared : listed M (v ∷ take i f) ≡ true
        shared = rw (← e) (listed-fewer g v i m a h (s o))

        go : Dec (k ≤ i) → distance (score_after M m g v).points (score_after M k f v).points ≤ largest_backoff
        go (yes q) = let z : k ≡ i = omega arith in rw (z, points-here M m g v (s o), points-here M i f v shared) (probabilities_close (v ∷ take m g) (v ∷ take i f))
        go (no q) = rw (points-here M m g v (s o), points-here M k f v (t (omega arith))) (probabilities_close (v ∷ take m g) (v ∷ take k f))

  settled_near : (i : ℕ) (g f : List ℕ) (v m k : ℕ) → take i g ≡ take i f → i ≤ m → i ≤ k → m ≤ length g → k ≤ length f → (i < m → listed M (v ∷ take m g) ≡ true) → (i < k → listed M (v ∷ take k f) ≡ true) → distance (score_after M m g v).points (score_after M k f v).points ≤ min 1 ((m - i) + (k - i)) * largest_backoff
  settled_near i g f v m k e a b h j s t = go (dec_le m i) (dec_le k i)
    where
      go : Dec (m ≤ i) → Dec (k ≤ i) → distance (score_after M m g v).points (score_after M k f v).points ≤ min 1 ((m - i) + (k - i)) * largest_backoff
      go (yes q) (yes r) =
          let y : m ≡ i = omega arith in
          let z : k ≡ i = omega arith in
          rw (y, z) (same_close _ {a = (score_after M i g v).points} (ap (λ (x : Score). x.points) (score_after-newest M i g f v e)))
      go (no q) r = omega (arith, longer-near i g f v e m k a b h s t (omega arith))
      go (yes q) (no r) = omega (arith, apart_turned (score_after M k f v).points (score_after M m g v).points largest_backoff (longer-near i f g v (sym e) k m b a j t s (omega arith)))

  -- a history whose live rows have at most x words more than the i that are shared
  pub record Reaches (i x : ℕ) (h : List ℕ) : Type 0 where
    pub within : i + x ≤ reach M
    pub inside : i + x ≤ length h
    live_to : LiveTo M (i + x) (map (replaced M) h)

  -- how many of these x a word leaves
  abbrev leaves : ℕ → ℕ → List ℕ → ℕ → ℕ
  leaves i x h w = settled_at i (i + x) (map (replaced M) h) (replaced M w) - i

  leaves_few : (i x : ℕ) (h : List ℕ) (w : ℕ) → leaves i x h w ≤ x
  leaves_few i x h w = omega (arith, matched_history_le M (i + x) (map (replaced M) h) (replaced M w))

  rule-near : (i x : ℕ) (h : List ℕ) (w : ℕ) → Reaches i x h → distance (rule M h w).points (score_after M (settled_at i (i + x) (map (replaced M) h) (replaced M w)) (map (replaced M) h) (replaced M w)).points ≤ (x - leaves i x h w) * largest_backoff
  rule-near i x h w r =
      let g = map (replaced M) h in
      let v = replaced M w in
      let long : length g ≡ length h = length-map h (replaced M) in
      let few = matched_history_le M (i + x) g v in
      rw (points_by-length M h w, past-live g v (i + x) (min (reach M) (length h)) r.live_to (omega (arith, r.within, r.inside)) (omega arith) (omega (arith, long)))
      (omega (arith, older_words g v (settled_at i (i + x) g v) (i + x) (omega (arith, few)) (omega (arith, long, r.inside)), few))

  word-apart : (i x y : ℕ) (h k : List ℕ) (w : ℕ) → Reaches i x h → Reaches i y k → take i h ≡ take i k → distance (rule M h w).points (rule M k w).points ≤ ((x - leaves i x h w) + (y - leaves i y k w) + min 1 (leaves i x h w + leaves i y k w)) * largest_backoff
  word-apart i x y h k w r q e =
      let g = map (replaced M) h in
      let f = map (replaced M) k in
      let v = replaced M w in
      let m = settled_at i (i + x) g v in
      let n = settled_at i (i + y) f v in
      let alike : take i g ≡ take i f = take-map (replaced M) i h ∙ ap (map (replaced M)) e ∙ sym (take-map (replaced M) i k) in
      let near = settled_near i g f v m n alike (omega arith) (omega arith) (omega (arith, matched_history_le M (i + x) g v, length-map h (replaced M), r.inside)) (omega (arith, matched_history_le M (i + y) f v, length-map k (replaced M), q.inside)) (settled_row i (i + x) g v) (settled_row i (i + y) f v) in
      spread (x - leaves i x h w) (y - leaves i y k w) (min 1 (leaves i x h w + leaves i y k w)) _ (apart_by (rule M h w).points (rule M k w).points (score_after M m g v).points (score_after M n f v).points _ _ _ (rule-near i x h w r) (rule-near i y k w q) near)
    where
      spread : (a b c d : ℕ) → d ≤ a * largest_backoff + b * largest_backoff + c * largest_backoff → d ≤ (a + b + c) * largest_backoff
      spread a b c d h = omega arith

  -- ---- the words after the place

  -- histories that are alike in n − 1 words give the same points for ever
  local_rest : (h k ws : List ℕ) → take (reach M) h ≡ take (reach M) k → rule_points M h ws ≡ rule_points M k ws
  unfolding rule_points
  local_rest h k [] e = refl
  local_rest h k (w ∷ ws) e =
      ap₂ (λ (z : ℤ) (l : List ℤ). z ∷ l) (ap (λ (s : Score). s.points) (rule_local M h k w e)) (local_rest (grow M h w) (grow M k w) ws (take-fewer (reach M) (suc (reach M)) (grow M h w) (grow M k w) (omega arith) (grow-alike M (reach M) h k w e)))

  next_reaches : (i x : ℕ) (h : List ℕ) (w : ℕ) → Reaches i x h → suc i ≤ reach M → Reaches (suc i) (min (leaves i x h w) (reach M - suc i)) (w ∷ h)
  next_reaches i x h w r o =
      let g = map (replaced M) h in
      let v = replaced M w in
      let few = matched_history_le M (i + x) g v in
      record {
        within = omega arith;
        inside = omega (arith, few, r.inside);
        live_to = λ l a b c. next-live i (i + x) g v r.live_to l (omega arith) b c;
      }

  -- What is left of N once a word has taken its part: x and y are what the histories reach, p and q of them what the word leaves, s and t what is left of these within
  -- n − 1 words; r words are to come until nothing shows.
  abbrev taken : ℕ → ℕ → ℕ → ℕ → ℕ
  taken x y p q = (x - p) + (y - q) + min 1 (p + q)

  account : (x y p q s t r N : ℕ) → p ≤ x → q ≤ y → s ≤ p → t ≤ q → 1 ≤ r → (x + y ≡ 0) ⊎ (x + y + r ≤ suc N) → (taken x y p q ≤ N) × ((s + t ≡ 0) ⊎ (s + t + (r - 1) ≤ suc (N - taken x y p q)))
  account x y p q s t r N a b c d o (inl z) = (omega arith, inl (omega arith))
  account x y p q s t r N a b c d o (inr z) = (few (dec_le (p + q) 0), left (dec_le (p + q) 0))
    where
      few : Dec (p + q ≤ 0) → taken x y p q ≤ N
      few (yes k) = omega arith
      few (no k) = omega arith

      left : Dec (p + q ≤ 0) → (s + t ≡ 0) ⊎ (s + t + (r - 1) ≤ suc (N - taken x y p q))
      left (yes k) = inl (omega arith)
      left (no k) =
          let e : taken x y p q ≡ ((x - p) + (y - q)) + 1 = omega arith in
          inr (rw e (omega arith))

  both-parts : (a N d : ℕ) → a ≤ N → d ≤ a * largest_backoff + (N - a) * largest_backoff → d ≤ N * largest_backoff
  both-parts a N d h f = omega arith

  rest-apart : (ws : List ℕ) (i x y N : ℕ) (h k : List ℕ) → Reaches i x h → Reaches i y k → take i h ≡ take i k → (x + y ≡ 0) ⊎ (x + y + (reach M - i) ≤ suc N) → distance (sum (rule_points M h ws)) (sum (rule_points M k ws)) ≤ N * largest_backoff
  rest-apart [] i x y N h k r q e b = unfold rule_points in omega arith
  rest-apart (w ∷ ws) i x y N h k r q e b = go (dec_le (suc i) (reach M)) (eqb w end_word) refl (λ o p. rest-apart ws (suc i) _ _ (N - part) (w ∷ h) (w ∷ k) (next_reaches i x h w r o) (next_reaches i y k w q o) (ap (λ (l : List ℕ). w ∷ l) e) p)
    where
      part : ℕ
      part = taken x y (leaves i x h w) (leaves i y k w)

      split : distance (sum (rule_points M (grow M h w) ws)) (sum (rule_points M (grow M k w) ws)) ≤ (N - part) * largest_backoff → part ≤ N → distance (sum (rule_points M h (w ∷ ws))) (sum (rule_points M k (w ∷ ws))) ≤ N * largest_backoff
      split f l =
          let t = apart-both (rule M h w).points (rule M k w).points (sum (rule_points M (grow M h w) ws)) (sum (rule_points M (grow M k w) ws)) (part * largest_backoff) ((N - part) * largest_backoff) (word-apart i x y h k w r q e) f in
          unfold rule_points in both-parts part N _ l t

      go : Dec (suc i ≤ reach M) → (b : Bool) → eqb w end_word ≡ b → ((o : suc i ≤ reach M) → (min (leaves i x h w) (reach M - suc i) + min (leaves i y k w) (reach M - suc i) ≡ 0) ⊎ (min (leaves i x h w) (reach M - suc i) + min (leaves i y k w) (reach M - suc i) + (reach M - suc i) ≤ suc (N - part)) → distance (sum (rule_points M (w ∷ h) ws)) (sum (rule_points M (w ∷ k) ws)) ≤ (N - part) * largest_backoff) → distance (sum (rule_points M h (w ∷ ws))) (sum (rule_points M k (w ∷ ws))) ≤ N * largest_backoff
      go (no o) t z ih = same_close _ {a = sum (rule_points M h (w ∷ ws))} (ap sum (local_rest h k (w ∷ ws) (take-fewer (reach M) i h k (omega arith) e)))
      go (yes o) t z ih =
          let a = account x y (leaves i x h w) (leaves i y k w) (min (leaves i x h w) (reach M - suc i)) (min (leaves i y k w) (reach M - suc i)) (reach M - i) N (leaves_few i x h w) (leaves_few i y k w) (omega arith) (omega arith) (omega arith) b in
          split (ended t z (ih o (less a.1))) a.0
        where
          less : {s n : ℕ} → (s ≡ 0) ⊎ (s + (reach M - i - 1) ≤ n) → (s ≡ 0) ⊎ (s + (reach M - suc i) ≤ n)
          less (inl p) = inl p
          less (inr p) = inr (omega arith)

          ended : (t : Bool) → eqb w end_word ≡ t → distance (sum (rule_points M (w ∷ h) ws)) (sum (rule_points M (w ∷ k) ws)) ≤ (N - part) * largest_backoff → distance (sum (rule_points M (grow M h w) ws)) (sum (rule_points M (grow M k w) ws)) ≤ (N - part) * largest_backoff
          ended true z f = unfold grow in rw z (same_close _ {a = sum (rule_points M (start_word ∷ []) ws)} refl)
          ended false z f = unfold grow in rw z f

  -- ---- the place itself: two words after one history

  row_near : (k : ℕ) (g : List ℕ) (v : ℕ) → k ≤ length g → (l : List ℕ) → distance (probability M l) (score_after M k g v).points ≤ largest_backoff + (k - matched_history M k g v) * largest_backoff
  row_near k g v h l =
      let a = matched_history M k g v in
      let p = probability M l in
      omega (arith, apart_by p (score_after M k g v).points p (score_after M a g v).points 0 ((k - a) * largest_backoff) largest_backoff (same_close 0 {a = p} refl) (older_words g v a k (matched_history_le M k g v) h) (go (dec_le 1 a)))
    where
      go : Dec (1 ≤ matched_history M k g v) → distance (probability M l) (score_after M (matched_history M k g v) g v).points ≤ largest_backoff
      go (yes o) = rw (points-here M (matched_history M k g v) g v (matched-row k g v o)) (probabilities_close l (v ∷ take (matched_history M k g v) g))
      go (no o) = let z : matched_history M k g v ≡ 0 = omega arith in rw z (unfold score_after in probabilities_close l (v ∷ []))

  two-words : (k : ℕ) (g : List ℕ) (v w : ℕ) → k ≤ length g → distance (score_after M k g v).points (score_after M k g w).points ≤ (1 + (matched_history M k g v - matched_history M k g w) + (matched_history M k g w - matched_history M k g v)) * largest_backoff
  two-words zero g v w h = unfold score_after in omega (arith, probabilities_close (v ∷ []) (w ∷ []))
  two-words (suc k) g v w h = go (two-words k g v w (omega arith)) (listed M (v ∷ take (suc k) g)) refl (listed M (w ∷ take (suc k) g)) refl
    where
      go : distance (score_after M k g v).points (score_after M k g w).points ≤ (1 + (matched_history M k g v - matched_history M k g w) + (matched_history M k g w - matched_history M k g v)) * largest_backoff
          → (a : Bool) → listed M (v ∷ take (suc k) g) ≡ a → (b : Bool) → listed M (w ∷ take (suc k) g) ≡ b
          → distance (score_after M (suc k) g v).points (score_after M (suc k) g w).points ≤ (1 + (matched_history M (suc k) g v - matched_history M (suc k) g w) + (matched_history M (suc k) g w - matched_history M (suc k) g v)) * largest_backoff
      go ih true e b f = rw (points-here M (suc k) g v e, matched_history_here M k g v e) (omega (arith, row_near (suc k) g w h (v ∷ take (suc k) g), matched_history_le M (suc k) g w))
      go ih false e true f =
          rw (points-here M (suc k) g w f, matched_history_here M k g w f)
          (omega (arith, apart_turned (probability M (w ∷ take (suc k) g)) (score_after M (suc k) g v).points _ (row_near (suc k) g v h (w ∷ take (suc k) g)), matched_history_le M (suc k) g v))
      go ih false e false f =
          rw (points-down M k g v e, points-down M k g w f, matched_history_down M k g v e, matched_history_down M k g w f)
          (apart-same (backoff M (take (suc k) g)) (score_after M k g v).points (score_after M k g w).points _ ih)

  -- what a word leaves of the history to the next: at most as many words as its row has
  reaches_from : (h : List ℕ) (v : ℕ) → 1 ≤ reach M → (x : ℕ) × (x ≤ min (suc (matched_history M (min (reach M) (length h)) (map (replaced M) h) (replaced M v))) (reach M)) × Reaches 0 x (grow M h v)
  reaches_from h v o = go (eqb v end_word) refl
    where
      k : ℕ
      k = min (reach M) (length h)

      g : List ℕ
      g = map (replaced M) h

      a : ℕ
      a = matched_history M k g (replaced M v)

      go : (b : Bool) → eqb v end_word ≡ b → (x : ℕ) × (x ≤ min (suc a) (reach M)) × Reaches 0 x (grow M h v)
      go true e = (1, omega arith, unfold grow in rw e (record { within = omega arith; inside = omega arith; live_to = λ l p q r. absurd (omega arith) }))
      go false e =
          let few = matched_history_le M k g (replaced M v) in (
            min (suc a) (reach M),
            omega arith,
            unfold grow in rw e (record {
              within = omega arith;
              inside = omega (arith, few);
              live_to = λ l p q r. next-live 0 k g (replaced M v) (λ j s t u. absurd (omega (arith, length-map h (replaced M)))) l (omega arith) q r;
            }),
          )

  -- the place's own move and what it leaves to the words behind it
  whole : (r a b x y : ℕ) → a ≤ r → b ≤ r → x ≤ min (suc a) r → y ≤ min (suc b) r → 1 ≤ r → (1 + (a - b) + (b - a)) + (x + y + r - 1) ≤ 3 * r + 1
  whole r a b x y p q s t o = omega arith

  from_place : (h ws : List ℕ) (v w : ℕ) → distance (sum (rule_points M h (v ∷ ws))) (sum (rule_points M h (w ∷ ws))) ≤ (3 * reach M + 1) * largest_backoff
  from_place h ws v w = go (dec_le 1 (reach M))
    where
      k : ℕ
      k = min (reach M) (length h)

      g : List ℕ
      g = map (replaced M) h

      first : distance (rule M h v).points (rule M h w).points ≤ (1 + (matched_history M k g (replaced M v) - matched_history M k g (replaced M w)) + (matched_history M k g (replaced M w) - matched_history M k g (replaced M v))) * largest_backoff
      first = rw (points_by-length M h v, points_by-length M h w) (two-words k g (replaced M v) (replaced M w) (omega (arith, length-map h (replaced M))))

      add_up : (N : ℕ) → distance (sum (rule_points M (grow M h v) ws)) (sum (rule_points M (grow M h w) ws)) ≤ N * largest_backoff → (1 + (matched_history M k g (replaced M v) - matched_history M k g (replaced M w)) + (matched_history M k g (replaced M w) - matched_history M k g (replaced M v))) + N ≤ 3 * reach M + 1 → distance (sum (rule_points M h (v ∷ ws))) (sum (rule_points M h (w ∷ ws))) ≤ (3 * reach M + 1) * largest_backoff
      add_up N f l =
          unfold rule_points in
          within-sum _ _ _ l (apart-both (rule M h v).points (rule M h w).points (sum (rule_points M (grow M h v) ws)) (sum (rule_points M (grow M h w) ws)) _ _ first f)
        where
          within-sum : {d : ℕ} (a b c : ℕ) → a + b ≤ c → d ≤ a * largest_backoff + b * largest_backoff → d ≤ c * largest_backoff
          within-sum a b c h f = omega arith

      go : Dec (1 ≤ reach M) → distance (sum (rule_points M h (v ∷ ws))) (sum (rule_points M h (w ∷ ws))) ≤ (3 * reach M + 1) * largest_backoff
      go (yes o) =
          let a = reaches_from h v o in
          let b = reaches_from h w o in
          add_up (a.0 + b.0 + reach M - 1) (rest-apart ws 0 a.0 b.0 (a.0 + b.0 + reach M - 1) (grow M h v) (grow M h w) a.2 b.2 refl (inr (omega arith)))
          (whole (reach M) (matched_history M k g (replaced M v)) (matched_history M k g (replaced M w)) a.0 b.0 (omega (arith, matched_history_le M k g (replaced M v))) (omega (arith, matched_history_le M k g (replaced M w))) a.1 b.1 o)
      go (no o) =
          let z : reach M ≡ 0 = omega arith in
          add_up 0 (same_close _ {a = sum (rule_points M (grow M h v) ws)} (ap sum (local_rest (grow M h v) (grow M h w) ws (rw z refl))))
          (omega (arith, matched_history_le M k g (replaced M v), matched_history_le M k g (replaced M w)))

  common_front : (h us vs ws : List ℕ) (n : ℕ) → ((k : List ℕ) → distance (sum (rule_points M k vs)) (sum (rule_points M k ws)) ≤ n) → distance (sum (rule_points M h (us ++ vs))) (sum (rule_points M h (us ++ ws))) ≤ n
  unfolding rule_points
  common_front h [] vs ws n f = f h
  common_front h (u ∷ us) vs ws n f = apart-same (rule M h u).points _ _ n (common_front (grow M h u) us vs ws n f)

  pub one-word-closer : (h : List ℕ) (i : ℕ) (us vs : List ℕ) → DifferAt i us vs → distance (sum (rule_points M h us)) (sum (rule_points M h vs)) ≤ closer_move M.order
  one-word-closer h i us vs d =
      let e : 3 * M.order - 2 ≡ 3 * reach M + 1 = unfold reach in omega (arith, A.order-low) in
      rw (e, split_first i us vs d, split_second i us vs d) (common_front h (take i us) _ _ _ (λ k. from_place k (drop (suc i) us) (get_or us i 0) (get_or vs i 0)))
