-- `arpa_text::are_texts`: what is left are so many texts where all are.
use Rattle.std.proofs.Common.{◌≡◌, ◌≤◌, ◌-◌, length, drop}
use Rattle.text_parts.specs.Parts.{parts}
use Rattle.arpa_text.specs.Lines.{are_texts}
use Rattle.arpa_text.proofs.are_texts.Given as goal

abbrev pub invariant-loop-k : goal.invariant-loop-k
invariant-loop-k l = (l.at ≤ length l.words) × (are_texts l.m (parts 32 l.words) ≡ are_texts (l.m - l.k) (parts 32 (drop l.at l.words)))
