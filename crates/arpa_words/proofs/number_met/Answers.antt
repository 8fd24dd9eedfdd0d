-- The record of a reserved word is there, or the others are searched. Assumes nothing.
use mathlib.Core.Path.{sym, ap, ◌∙◌}
use native.Mathlib.Omega.{arith}
use Rattle.arpa_words.specs.Words.{reserved_number}
use Rattle.arpa_words.proofs.WordsHeld.{met_by_record, met_by_search}
use Rattle.arpa_words.specs.Held.{unless_zero}
use Rattle.arpa_words.proofs.Words.{reserved_small}
use Rattle.arpa_words.proofs.Numbers.{unless-some, unless-none, unless-cond, unless-found}
use Rattle.arpa_words.proofs.number_met.Goals as goal

pub reserved_met-requires : goal.reserved_met-requires
reserved_met-requires c =
    let z = unless-some (reserved_number c.args.text.now) c.in-Some.k c.in-Some.ensures in
    let s = reserved_small c.args.text.now in
    omega arith

pub returns-in-Some : goal.returns-in-Some
returns-in-Some c =
    let z = unless-some (reserved_number c.args.text.now) c.in-Some.k c.in-Some.ensures in
    c.reserved_met.ensures
    ∙ unless-cond _ c.in-Some.k z.1
    ∙ ap unless_zero (sym (met_by_record c.args.table.now c.args.store.now c.args.buckets c.args.words c.requires.0 c.args.text.now c.requires.1 c.in-Some.k z.0 z.1))

pub returns-in-None : goal.returns-in-None
returns-in-None c =
    let z = unless-none (reserved_number c.args.text.now) c.in-None.ensures in
    c.find_text.ensures
    ∙ unless-found c.args.store.now c.args.words c.args.text.now
    ∙ ap unless_zero (sym (met_by_search c.args.table.now c.args.store.now c.args.buckets c.args.words c.requires.0 c.args.text.now c.requires.1 z))
