-- Five places with a history of at most four words and the word behind it.
use Rattle.std.proofs.Common.{◌≡◌, refl, ap, ◌∙◌, arith, rules, List, [], ◌∷◌, ◌++◌, ◌+◌, ◌<◌, length, take, get_or, ℤ, w32}
use mir.Facts.{to_z-of_z}
use mir.Val.{SFits}
use Rattle.plain_word.proofs.followed.Goals as goal

followed_is : (h : List ℤ) (w : ℤ) {a b c d e : ℤ} → length h < 5 → a ≡ get_or h 0 w → b ≡ get_or h 1 w → c ≡ get_or h 2 w → d ≡ get_or h 3 w → e ≡ w → take (length h + 1) (a ∷ b ∷ c ∷ d ∷ e ∷ []) ≡ h ++ (w ∷ [])
followed_is h w l p q r s t = rw (p, q, r, s, t) (go h l)
  where
    go : (h : List ℤ) → length h < 5 → take (length h + 1) (get_or h 0 w ∷ get_or h 1 w ∷ get_or h 2 w ∷ get_or h 3 w ∷ w ∷ []) ≡ h ++ (w ∷ [])
    go [] l = refl
    go (a ∷ []) l = refl
    go (a ∷ b ∷ []) l = refl
    go (a ∷ b ∷ c ∷ []) l = refl
    go (a ∷ b ∷ c ∷ d ∷ []) l = refl
    go (a ∷ b ∷ c ∷ d ∷ e ∷ h) l = absurd (omega arith)

pub returns : goal.returns
returns c =
    let h = c.args.history.now in
    let w = to_z-of_z c.ranges.word in
    let a : SFits w32 c.word_at-a.result = search rules in
    let b : SFits w32 c.word_at-b.result = search rules in
    let x : SFits w32 c.word_at-c.result = search rules in
    let d : SFits w32 c.word_at.result = search rules in
    followed_is h c.args.word c.requires
    (to_z-of_z a ∙ c.word_at-a.ensures ∙ ap (get_or h 0) w)
    (to_z-of_z b ∙ c.word_at-b.ensures ∙ ap (get_or h 1) w)
    (to_z-of_z x ∙ c.word_at-c.ensures ∙ ap (get_or h 2) w)
    (to_z-of_z d ∙ c.word_at.ensures ∙ ap (get_or h 3) w)
    w
