-- Each word is in range, so that it is a digit.
use Rattle.std.proofs.Common.{rules, ◌≡◌, true, List, map, ◌<◌, length, ℕ, ℤ, pos, nat_abs, get_or, SFits, w32, to_z, of_z, ap, sym, ◌∙◌, arith}
use mir.Facts.{to_z-of_z}
use lib.ListN.{get_or-map}
use Rattle.integer.specs.Integer.{between}
use Rattle.integer.proofs.Arithmetic.{zarith, abs}
use Rattle.integer.proofs.Ranges.{between-low, between-high, between_cast}
use Rattle.backoff.specs.Limits.{word_limit}
use Rattle.backoff.specs.Words.{radix, key}
use Rattle.backoff.specs.NineNumbers.{all}
use Rattle.backoff.proofs.NineNumbers.{passed}
use lib.Seq.{take_all}
use Rattle.carried_state.proofs.Parts.{first-four}
use Rattle.carried_state.proofs.key_of.Goals as goal

in_words : (ws : List ℤ) (i : ℕ) → all (map (between (pos 0) (pos word_limit)) ws) ≡ true → between (pos 0) (pos word_limit) (get_or ws i (pos 0)) ≡ true
unfolding between
in_words ws i h = sym (get_or-map (between (pos 0) (pos word_limit)) ws i (pos 0)) ∙ passed (map (between (pos 0) (pos word_limit)) ws) i h

word_low : (z : ℤ) → SFits w32 z → between (pos 0) (pos word_limit) z ≡ true → nat_abs (to_z w32 (of_z w32 z)) < radix
word_low z f h =
    let l = between-low (pos 0) (pos word_limit) z h in
    let u = between-high (pos 0) (pos word_limit) z h in
    rw to_z-of_z (omega (zarith, abs z))

pub overflow_cast-a : goal.overflow_cast-a
overflow_cast-a c = between_cast (pos word_limit) (search rules) (in_words c.args.words 0 c.requires)

pub overflow_cast-b : goal.overflow_cast-b
overflow_cast-b c = between_cast (pos word_limit) (search rules) (in_words c.args.words 1 c.requires)

pub overflow_cast-c : goal.overflow_cast-c
overflow_cast-c c = between_cast (pos word_limit) (search rules) (in_words c.args.words 2 c.requires)

pub overflow_cast-d : goal.overflow_cast-d
overflow_cast-d c = between_cast (pos word_limit) (search rules) (in_words c.args.words 3 c.requires)

pub key_of_four-requires : goal.key_of_four-requires
key_of_four-requires c =
    let low = λ (i : ℕ) (f : SFits w32 (get_or c.args.words i (pos 0))). word_low (get_or c.args.words i (pos 0)) f (in_words c.args.words i c.requires) in
    (low 0 (search rules), low 1 (search rules), low 2 (search rules), low 3 (search rules))

pub returns : goal.returns
returns c =
    let n : length c.args.words ≡ 4 = search rules in
    let e : SFits w32 (get_or c.args.words 0 (pos 0)) = search rules in
    let f : SFits w32 (get_or c.args.words 1 (pos 0)) = search rules in
    let g : SFits w32 (get_or c.args.words 2 (pos 0)) = search rules in
    let h : SFits w32 (get_or c.args.words 3 (pos 0)) = search rules in
    c.key_of_four.ensures ∙ rw (to_z-of_z e, to_z-of_z f, to_z-of_z g, to_z-of_z h) (ap (λ (l : List ℤ). key (map nat_abs l)) (first-four c.args.words (omega arith) ∙ take_all 4 c.args.words (omega arith)))
