-- Over any model, with every p and b multiplied by k: each word has k times the points after every history, the same row is matched, and states have k times the
-- back-offs; so have runs and lists of runs. Assumes nothing.
use Rattle.std.specs.declared.option.Option.{Option}
use Rattle.std.specs.declared.option.Option.TheVariants.{Some, None}
use mathlib.Core.Path.{◌≡◌, refl, sym, ap, ap₂, subst, ◌∙◌}
use mathlib.Core.Bool.{Bool, true, false, not, cond, ◌||◌}
use mathlib.Core.List.{List, [], ◌∷◌, ◌++◌, map}
use Prim.Native.Nat.{ℕ, zero, suc, ◌<◌, min}
use lib.ListN.{length, take, drop, length-map}
use lib.IntN.{ℤ, pos, ◌+ℤ◌}
use lib.Dec.{eqb}
use Rattle.integer.specs.Integer.{eq_z, sum}
use Rattle.backoff.specs.Limits.{unknown_word, start_word, end_word}
use Rattle.backoff.specs.Model.{Entry, Model, is_some, probability_of, backoff_of, extended_of, continued_of, listed, probability, backoff, extended, continued, live, reach}
use Rattle.backoff.specs.Rule.{Score, add_points, length_byte, replaced, row_score, score_after, history_length, rule, rule_byte, grow, rule_points, rule_bytes}
use Rattle.backoff.specs.State.{State, largest, climb, empty, backoffs_of, newest, live_length, state_of, after, walk, matched_from, points_from, extended_from, next_from, step_points, step_byte, start, step_next}
use Rattle.backoff.specs.Run.{Run, Answer, refusal, accepted, refused_run, accepted_run, front, run_points, run_bytes, run_end, run, first, plain, Call}
use Rattle.backoff.specs.NineNumbers.{padded, nine}
use Rattle.backoff.proofs.NineNumbers.{length-padded}
use lib.Seq.{take_at, drop_at}
use Rattle.backoff.specs.Runs.{answers, last_state, standing_points, standing_lengths, Alike, AllAlike, done, more}
use Rattle.backoff.proofs.Rule.{history_length-same, score_after-here, score_after-down, length-rule_points, length-rule_bytes}
use Rattle.backoff.proofs.Run.{length-run_points, length-run_bytes}
use Rattle.backoff.proofs.Runs.{standing-written, standing-refused, alike-refusal, alike-accepted}
use Rattle.finer.specs.Times.{times, times_entry, times_model, times_score, times_state, times_nine, AnsweredTimes, ScoreTimes}
use Rattle.finer.proofs.Products.{times_zero, times_add, times_none, sum-times, drop-map, map-append}

-- ---- what is found

module _ (k : ℕ) where
  found-listed : (o : Option Entry) → is_some (times_entry k o) ≡ is_some o
  found-listed None = refl
  found-listed (Some r) = refl

  found-probability : (o : Option Entry) → probability_of (times_entry k o) ≡ times k (probability_of o)
  found-probability None = sym (times_zero k)
  found-probability (Some r) = refl

  found-backoff : (o : Option Entry) → backoff_of (times_entry k o) ≡ times k (backoff_of o)
  found-backoff None = sym (times_zero k)
  found-backoff (Some r) = refl

  found-extended : (o : Option Entry) → extended_of (times_entry k o) ≡ extended_of o
  found-extended None = refl
  found-extended (Some r) = refl

  found-continued : (o : Option Entry) → continued_of (times_entry k o) ≡ continued_of o
  found-continued None = refl
  found-continued (Some r) = refl

  add_times : (x : ℤ) (s : Score) → add_points (times k x) (times_score k s) ≡ times_score k (add_points x s)
  unfolding add_points times_score
  add_times x s = ap (λ (z : ℤ). record { points = z; matched = s.matched; extended = s.extended }) (sym (times_add k x s.points))

module _ (k : ℕ) (M : Model) where
  abbrev N : Model
  N = times_model k M

  listed-times : listed N ≡ listed M
  unfolding listed times_model
  listed-times = λ i l. found-listed k (M.find l) i

  probability-times : (l : List ℕ) → probability N l ≡ times k (probability M l)
  unfolding probability times_model
  probability-times l = found-probability k (M.find l)

  backoff-times : (l : List ℕ) → backoff N l ≡ times k (backoff M l)
  unfolding backoff times_model
  backoff-times l = found-backoff k (M.find l)

  extended-times : (l : List ℕ) → extended N l ≡ extended M l
  unfolding extended times_model
  extended-times l = found-extended k (M.find l)

  continued-times : (l : List ℕ) → continued N l ≡ continued M l
  unfolding continued times_model
  continued-times l = found-continued k (M.find l)

  -- ---- the rule

  replaced-times : replaced N ≡ replaced M
  unfolding replaced
  replaced-times = λ i w. ap (λ (f : List ℕ → Bool). cond (f (w ∷ [])) w unknown_word) listed-times i

  order-times : N.order ≡ M.order
  unfolding times_model
  order-times = refl

  reach-times : reach N ≡ reach M
  unfolding reach
  reach-times = rw order-times

  row-times : (l : List ℕ) (n : ℕ) → row_score N l n ≡ times_score k (row_score M l n)
  unfolding times_score
  row-times l n = ap₂ (λ (z : ℤ) (e : Bool). record { points = z; matched = n; extended = e }) (probability-times l) (extended-times l)

  score_after-times : (j : ℕ) (g : List ℕ) (v : ℕ) → score_after N j g v ≡ times_score k (score_after M j g v)
  score_after-times zero g v = unfold score_after in row-times (v ∷ []) 1
  score_after-times (suc j) g v = go (score_after-times j g v) (listed M (v ∷ take (suc j) g)) refl
    where
      same : listed N (v ∷ take (suc j) g) ≡ listed M (v ∷ take (suc j) g)
      same = ap (λ (f : List ℕ → Bool). f (v ∷ take (suc j) g)) listed-times

      go : score_after N j g v ≡ times_score k (score_after M j g v) → (b : Bool) → listed M (v ∷ take (suc j) g) ≡ b → score_after N (suc j) g v ≡ times_score k (score_after M (suc j) g v)
      go ih true e =
          score_after-here N j g v (same ∙ e)
          ∙ row-times (v ∷ take (suc j) g) (suc (suc j))
          ∙ ap (times_score k) (sym (score_after-here M j g v e))
      go ih false e =
          score_after-down N j g v (same ∙ e)
          ∙ ap₂ add_points (backoff-times (take (suc j) g)) ih
          ∙ add_times k (backoff M (take (suc j) g)) (score_after M j g v)
          ∙ ap (times_score k) (sym (score_after-down M j g v e))

  -- "every score of it is then exactly [k] times the earlier one", after every history
  pub rule-times : (h : List ℕ) (w : ℕ) → rule N h w ≡ times_score k (rule M h w)
  unfolding rule
  rule-times h w =
      ap (λ (f : ℕ → ℕ). score_after N (history_length N (map f h)) (map f h) (f w)) replaced-times
      ∙ ap (λ (n : ℕ). score_after N n (map (replaced M) h) (replaced M w)) (history_length-same M N order-times (map (replaced M) h))
      ∙ score_after-times (history_length M (map (replaced M) h)) (map (replaced M) h) (replaced M w)

  pub rule_byte-times : (h : List ℕ) (w : ℕ) → rule_byte N h w ≡ rule_byte M h w
  unfolding rule_byte times_score
  rule_byte-times h w = ap₂ (λ (s : Score) (f : ℕ → ℕ). length_byte s.matched (f w) s.extended) (rule-times h w) replaced-times

  rule_points-times : (h ws : List ℕ) → rule_points N h ws ≡ map (times k) (rule_points M h ws)
  unfolding rule_points grow times_score
  rule_points-times h [] = refl
  rule_points-times h (w ∷ ws) = ap₂ (λ (z : ℤ) (zs : List ℤ). z ∷ zs) (ap (λ (s : Score). s.points) (rule-times h w)) (rule_points-times (grow M h w) ws)

  rule_bytes-times : (h ws : List ℕ) → rule_bytes N h ws ≡ rule_bytes M h ws
  unfolding rule_bytes grow
  rule_bytes-times h [] = refl
  rule_bytes-times h (w ∷ ws) = ap₂ (λ (b : ℕ) (bs : List ℕ). b ∷ bs) (rule_byte-times h w) (rule_bytes-times (grow M h w) ws)

  -- ---- the state, where k is not 0: a row with a b stays live

  module _ (some-k : 0 < k) where
    live-times : live N ≡ live M
    unfolding live
    live-times = λ i l.
        ap₂ (λ (t : Bool) (f : Bool). not t || f) (ap (λ (z : ℤ). eq_z z (pos 0)) (backoff-times l) ∙ times_none k some-k (backoff M l)) (continued-times l) i

    live_length-times : (j : ℕ) (g : List ℕ) → live_length N j g ≡ live_length M j g
    unfolding live_length
    live_length-times j g = ap (λ (f : List ℕ → Bool). largest (λ i. f (take i g)) j) live-times

    backoffs_of-times : (j : ℕ) (g : List ℕ) → backoffs_of N j g ≡ map (times k) (backoffs_of M j g)
    unfolding backoffs_of
    backoffs_of-times zero g = refl
    backoffs_of-times (suc j) g =
        ap₂ (λ (zs : List ℤ) (z : ℤ). zs ++ (z ∷ [])) (backoffs_of-times j g) (backoff-times (take (suc j) g))
        ∙ sym (map-append (times k) (backoffs_of M j g) (backoff M (take (suc j) g) ∷ []))

    newest-times : (j : ℕ) (g : List ℕ) → newest N j g ≡ times_state k (newest M j g)
    unfolding newest times_state
    newest-times j g = ap (λ (zs : List ℤ). record { words = take j g; backoffs = zs }) (backoffs_of-times j g)

    state_of-times : (g : List ℕ) → state_of N g ≡ times_state k (state_of M g)
    unfolding state_of
    state_of-times g =
        newest-times (live_length N (history_length N g) g) g
        ∙ ap (λ (n : ℕ). times_state k (newest M n g)) (live_length-times (history_length N g) g ∙ ap (λ (n : ℕ). live_length M n g) (history_length-same M N order-times g))

    pub after-times : (h : List ℕ) → after N h ≡ times_state k (after M h)
    unfolding after
    after-times h = ap (λ (f : ℕ → ℕ). state_of N (map f h)) replaced-times ∙ state_of-times (map (replaced M) h)

    -- ---- one word from a state

    walk-times : (v : ℕ) (ws : List ℕ) → walk N v ws ≡ walk M v ws
    unfolding walk
    walk-times v ws = ap (λ (f : List ℕ → Bool). climb (λ i. f (v ∷ take i ws)) (length ws) 0) listed-times

    module _ (s : State) (v : ℕ) where
      abbrev passed : ℕ
      passed = walk M v s.words

      points_from-times : points_from N (times_state k s) v ≡ times k (points_from M s v)
      unfolding points_from times_state
      points_from-times =
          ap (λ (n : ℕ). probability N (v ∷ take n s.words) +ℤ sum (drop n (map (times k) s.backoffs))) (walk-times v s.words)
          ∙ ap₂ ◌+ℤ◌ (probability-times (v ∷ take passed s.words)) (ap sum (drop-map (times k) passed s.backoffs) ∙ sum-times k (drop passed s.backoffs))
          ∙ sym (times_add k (probability M (v ∷ take passed s.words)) (sum (drop passed s.backoffs)))

      matched_from-times : matched_from N (times_state k s) v ≡ matched_from M s v
      unfolding matched_from times_state
      matched_from-times = ap suc (walk-times v s.words)

      extended_from-times : extended_from N (times_state k s) v ≡ extended_from M s v
      unfolding extended_from times_state
      extended_from-times =
          ap (λ (n : ℕ). extended N (v ∷ take n s.words)) (walk-times v s.words) ∙ extended-times (v ∷ take passed s.words)

      next_from-times : next_from N (times_state k s) v ≡ times_state k (next_from M s v)
      unfolding next_from times_state
      next_from-times =
          newest-times (live_length N (min (reach N) (matched_from N (times_state k s) v)) g) g
          ∙ ap (λ (n : ℕ). times_state k (newest M n g))
          (live_length-times (min (reach N) (matched_from N (times_state k s) v)) g ∙ ap₂ (λ (a b : ℕ). live_length M (min a b) g) reach-times matched_from-times)
        where
          g : List ℕ
          g = v ∷ s.words

    empty-times : times_state k empty ≡ empty
    unfolding times_state
    empty-times = refl

    step_points-times : (s : State) (w : ℕ) → step_points N (times_state k s) w ≡ times k (step_points M s w)
    unfolding step_points
    step_points-times s w = ap (λ (f : ℕ → ℕ). points_from N (times_state k s) (f w)) replaced-times ∙ points_from-times s (replaced M w)

    step_byte-times : (s : State) (w : ℕ) → step_byte N (times_state k s) w ≡ step_byte M s w
    unfolding step_byte
    step_byte-times s w =
        ap (λ (f : ℕ → ℕ). length_byte (matched_from N (times_state k s) (f w)) (f w) (extended_from N (times_state k s) (f w))) replaced-times
        ∙ ap₂ (λ (n : ℕ) (e : Bool). length_byte n (replaced M w) e) (matched_from-times s (replaced M w)) (extended_from-times s (replaced M w))

    start-times : start N ≡ times_state k (start M)
    unfolding start
    start-times =
        ap₂ (λ (s : State) (f : ℕ → ℕ). next_from N s (f start_word)) (sym empty-times) replaced-times ∙ next_from-times empty (replaced M start_word)

    step_next-times : (s : State) (w : ℕ) → step_next N (times_state k s) w ≡ times_state k (step_next M s w)
    unfolding step_next
    step_next-times s w = go (eqb w end_word)
      where
        go : (t : Bool) → cond t (start N) (next_from N (times_state k s) (replaced N w)) ≡ times_state k (cond t (start M) (next_from M s (replaced M w)))
        go true = start-times
        go false = ap (λ (f : ℕ → ℕ). next_from N (times_state k s) (f w)) replaced-times ∙ next_from-times s (replaced M w)

    -- ---- runs

    pub run_points-times : (s : State) (ws : List ℕ) → run_points N (times_state k s) ws ≡ map (times k) (run_points M s ws)
    unfolding run_points
    run_points-times s [] = refl
    run_points-times s (w ∷ ws) =
        ap₂ (λ (z : ℤ) (zs : List ℤ). z ∷ zs) (step_points-times s w) (ap (λ (t : State). run_points N t ws) (step_next-times s w) ∙ run_points-times (step_next M s w) ws)

    run_bytes-times : (s : State) (ws : List ℕ) → run_bytes N (times_state k s) ws ≡ run_bytes M s ws
    unfolding run_bytes
    run_bytes-times s [] = refl
    run_bytes-times s (w ∷ ws) =
        ap₂ (λ (b : ℕ) (bs : List ℕ). b ∷ bs) (step_byte-times s w) (ap (λ (t : State). run_bytes N t ws) (step_next-times s w) ∙ run_bytes-times (step_next M s w) ws)

    pub run_end-times : (s : State) (ws : List ℕ) → run_end N (times_state k s) ws ≡ times_state k (run_end M s ws)
    unfolding run_end
    run_end-times s [] = refl
    run_end-times s (w ∷ ws) = ap (λ (t : State). run_end N t ws) (step_next-times s w) ∙ run_end-times (step_next M s w) ws

    first-times : (b : Bool) → first N b ≡ times_state k (first M b)
    unfolding first
    first-times true = start-times
    first-times false = sym empty-times

-- ---- the answers

module _ {S : Type 0} (k : ℕ) (scale : S → S) {r q : Run} where
  refused_run-times : (number place : ℕ) (s t : S) → eqb number 0 ≡ false → t ≡ scale s → AnsweredTimes k scale r q (refused_run number place s r) (refused_run number place t q)
  unfolding refused_run
  refused_run-times number place s t e f = record {
    number = refl;
    place = refl;
    total = sym (times_zero k);
    end = f;
    points = standing-refused number q _ e ∙ ap (map (times k)) (sym (standing-refused number r _ e));
    lengths = standing-refused number q _ e ∙ sym (standing-refused number r _ e);
  }

  accepted_run-times : (s t : S) (ps zs : List ℤ) (bs cs : List ℕ) → length ps ≡ length r.words → length bs ≡ length r.words → r.words ≡ q.words
      → t ≡ scale s → zs ≡ map (times k) ps → cs ≡ bs → AnsweredTimes k scale r q (accepted_run s ps bs r) (accepted_run t zs cs q)
  unfolding accepted_run
  accepted_run-times s t ps zs bs cs e f w g h i = record {
    number = refl;
    place = refl;
    total = ap sum h ∙ sum-times k ps;
    end = g;
    points = standing-written q zs _ (ap length h ∙ length-map ps (times k) ∙ e ∙ ap length w) ∙ h ∙ ap (map (times k)) (sym (standing-written r ps _ e));
    lengths = standing-written q cs _ (ap length i ∙ f ∙ ap length w) ∙ i ∙ sym (standing-written r bs _ f);
  }

cond-times : {S : Type 0} {k : ℕ} {scale : S → S} {r q : Run} {x y z u : Answer S} (t : Bool)
    → (t ≡ true → AnsweredTimes k scale r q x y) → (t ≡ false → AnsweredTimes k scale r q z u) → AnsweredTimes k scale r q (cond t x z) (cond t y u)
cond-times true f g = f refl
cond-times false f g = g refl

module _ (k : ℕ) (M : Model) where
  -- a run over the multiplied model, from the multiplied state
  pub run-times : 0 < k → (s : State) {r q : Run} → Alike r q → AnsweredTimes k (times_state k) r q (run M s r) (run (times_model k M) (times_state k s) q)
  run-times some-k s {r} {q} a =
      unfold run in
      rw (sym (alike-accepted a), sym (alike-refusal a))
      (cond-times (accepted r)
      (λ e.
      accepted_run-times k (times_state k) _ _ _ _ _ _ (length-run_points M s r.words) (length-run_bytes M s r.words) a.words
      (ap (run_end (times_model k M) (times_state k s)) (sym a.words) ∙ run_end-times k M some-k s r.words)
      (ap (run_points (times_model k M) (times_state k s)) (sym a.words) ∙ run_points-times k M some-k s r.words)
      (ap (run_bytes (times_model k M) (times_state k s)) (sym a.words) ∙ run_bytes-times k M some-k s r.words))
      (λ e. refused_run-times k (times_state k) (refusal r) 0 s (times_state k s) (unfold accepted in e) refl))

  -- plain scoring returns no state
  pub plain-times : (b : Bool) {r q : Run} → Alike r q → AnsweredTimes k (λ (u : Unit {0}). u) r q (plain M b r) (plain (times_model k M) b q)
  plain-times b {r} {q} a =
      unfold plain in
      rw (sym (alike-accepted a), sym (alike-refusal a))
      (cond-times (accepted r)
      (λ e.
      accepted_run-times k (λ (u : Unit {0}). u) tt tt _ _ _ _ (length-rule_points M (front b) r.words) (length-rule_bytes M (front b) r.words) a.words refl
      (ap (rule_points (times_model k M) (front b)) (sym a.words) ∙ rule_points-times k M (front b) r.words)
      (ap (rule_bytes (times_model k M) (front b)) (sym a.words) ∙ rule_bytes-times k M (front b) r.words))
      (λ e. refused_run-times k (λ (u : Unit {0}). u) (refusal r) 0 tt tt (unfold accepted in e) refl))

-- ---- lists of runs

module _ {S : Type 0} (k : ℕ) (scale : S → S) (call finer : Call S) (each : (s : S) (r q : Run) → Alike r q → AnsweredTimes k scale r q (call s r) (finer (scale s) q)) where
  -- one run of each list, then the rest
  times_more : (s : S) {r q : Run} (a : Alike r q) {rs qs : List Run} → ScoreTimes k scale call finer (call s r).end (finer (scale s) q).end rs qs → ScoreTimes k scale call finer s (scale s) (r ∷ rs) (q ∷ qs)
  unfolding answers last_state standing_points standing_lengths
  times_more s {r} {q} a g =
      let one = each s r q a in
      record {
        numbers = ap₂ ◌∷◌ one.number g.numbers;
        places = ap₂ ◌∷◌ one.place g.places;
        totals = ap₂ ◌∷◌ one.total g.totals;
        ends = ap₂ ◌∷◌ one.end g.ends;
        last = g.last;
        points = ap₂ ◌∷◌ one.points g.points;
        lengths = ap₂ ◌∷◌ one.lengths g.lengths;
      }

  runs-times : (s : S) {rs qs : List Run} → AllAlike rs qs → ScoreTimes k scale call finer s (scale s) rs qs
  unfolding answers last_state standing_points standing_lengths
  runs-times s done = record { numbers = refl; places = refl; totals = refl; ends = refl; last = refl; points = refl; lengths = refl }
  runs-times s (more {r = r} {q = q} {rs = rs} {qs = qs} a l) =
      times_more s a (subst (λ (t : S). ScoreTimes k scale call finer (call s r).end t rs qs) (sym (each s r q a).end) (runs-times (call s r).end l))

-- every list of runs over the multiplied model, from start's state or the empty one
pub runs_over_times : (k : ℕ) → 0 < k → (M : Model) (b : Bool) {rs qs : List Run} → AllAlike rs qs
    → ScoreTimes k (times_state k) (run M) (run (times_model k M)) (first M b) (first (times_model k M) b) rs qs
runs_over_times k some-k M b {rs} {qs} l =
    subst (λ (t : State). ScoreTimes k (times_state k) (run M) (run (times_model k M)) (first M b) t rs qs) (sym (first-times k M some-k b))
    (runs-times k (times_state k) (run M) (run (times_model k M)) (λ s r q a. run-times k M some-k s a) (first M b) l)

-- ---- the nine numbers of a state

padded-times : (k j : ℕ) (zs : List ℤ) → padded j (map (times k) zs) ≡ map (times k) (padded j zs)
unfolding padded
padded-times k zero zs = refl
padded-times k (suc j) [] = ap₂ (λ (z : ℤ) (l : List ℤ). z ∷ l) (sym (times_zero k)) (padded-times k j [])
padded-times k (suc j) (z ∷ zs) = ap (λ (l : List ℤ). times k z ∷ l) (padded-times k j zs)

pub nine-times : (k : ℕ) (s : State) → nine (times_state k s) ≡ times_nine k (nine s)
unfolding nine times_state times_nine
nine-times k s =
    ap (λ (l : List ℤ). front-five ++ l) (padded-times k 4 s.backoffs)
    ∙ sym (ap₂ (λ (a b : List ℤ). a ++ map (times k) b) (take_at front-five (padded 4 s.backoffs) 5 five) (drop_at front-five (padded 4 s.backoffs) 5 five))
  where
    front-five : List ℤ
    front-five = pos (length s.words) ∷ padded 4 (map pos s.words)

    five : length front-five ≡ 5
    five = ap suc (length-padded 4 (map pos s.words))
