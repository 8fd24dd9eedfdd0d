-- `columns::put_spaces`: the part is filled.
use Rattle.std.proofs.Common.{◌≡◌, ℕ, ◌+◌, ◌-◌, ◌≤◌, List, ◌++◌, length, take, drop, replicate, sym, ap, ◌∙◌, arith, append_assoc, length-take, length-drop}
use Rattle.std.proofs.lemmas.List.Edits.{sets, sets-eq}
use lib.ListN.{length-replicate}
use lib.Seq.{drop-drop}
use borrow.Rule.Slice.PartMut.{put_mid}
use Rattle.columns.proofs.put_spaces.Goals as goal

filled : (out : List ℕ) (at n : ℕ) (part : List ℕ) → at + n ≤ length out → part ≡ replicate (length (take (at + n - at) (drop at out))) 32
    → put_mid at (at + n - at) out part ≡ sets out at (replicate n 32)
filled out at n part h e =
    let k : at + n - at ≡ n = omega arith in
    let l : length (take n (drop at out)) ≡ n = omega (arith, length-take {A = ℕ}, length-drop {A = ℕ}) in
    let m : length (replicate {A = ℕ} n 32) ≡ n = length-replicate {A = ℕ} n 32 in
    let r : at + length (replicate {A = ℕ} n 32) ≤ length out = omega arith in
    rw (e, k, l)
    (sym (sets-eq (replicate {A = ℕ} n 32) out at r ∙ rw (m, append_assoc) (ap (λ (rest : List ℕ). take at out ++ (replicate {A = ℕ} n 32 ++ rest)) (sym (drop-drop n at out)))))

pub returns-clause-text : goal.returns-clause-text
returns-clause-text c =
    rw c.saturating_sub.ensures (filled c.args.out.now c.args.at (c.args.width - c.args.taken) c.fill.new.self (omega arith) (rw c.saturating_sub.ensures at (c.fill.ensures.after (λ y e. e))))
