use contract.BorrowLft.{⊑_meet, ⊑_static}
use Rattle.lock_book.proofs.steps.Held+T.apply.Goals as goal

-- the lifetimes of the note's type and of what it is made of, which are those of the value's types
pub of-requires : goal.of-requires
of-requires g c κs within =
    let κ = κs.1.0 in
    let none = ⊑_static κ in
    let s = within.0 in
    let k = within.1.0 in
    let r = within.1.1.0 in
    let e = ⊑_meet κ _ _ (⊑_meet κ _ _ (⊑_meet κ _ _ s (⊑_meet κ _ _ k (⊑_meet κ _ _ r none))) (⊑_meet κ _ _ k (⊑_meet κ _ _ r (⊑_meet κ _ _ s none)))) none in
    let μ = κs.1.1.0 in
    let nil = ⊑_static μ in
    let i = within.1.1.1.0 in
    let o = within.1.1.1.1.0 in
    let t = within.1.1.1.1.1.0 in
    let d = within.1.1.1.1.1.1.0 in
    let q = within.1.1.1.1.1.1.1 in
    let m0 = ⊑_meet μ _ _ q nil in
    let m1 = ⊑_meet μ _ _ d m0 in
    let m2 = ⊑_meet μ _ _ t m1 in
    let m3 = ⊑_meet μ _ _ t nil in
    let m4 = ⊑_meet μ _ _ q m3 in
    let m5 = ⊑_meet μ _ _ d m4 in
    let m6 = ⊑_meet μ _ _ m2 m5 in
    let m7 = ⊑_meet μ _ _ m6 nil in
    let m8 = ⊑_meet μ _ _ m7 nil in
    let m9 = ⊑_meet μ _ _ m8 nil in
    let m10 = ⊑_meet μ _ _ m7 m9 in
    let m11 = ⊑_meet μ _ _ m10 nil in
    let m12 = ⊑_meet μ _ _ m11 nil in
    let m13 = ⊑_meet μ _ _ m12 nil in
    let m14 = ⊑_meet μ _ _ m11 m13 in
    let m15 = ⊑_meet μ _ _ m14 nil in
    let m16 = ⊑_meet μ _ _ m15 nil in
    let m17 = ⊑_meet μ _ _ m15 m16 in
    let m18 = ⊑_meet μ _ _ i nil in
    let m19 = ⊑_meet μ _ _ m18 nil in
    let m20 = ⊑_meet μ _ _ m19 nil in
    let m21 = ⊑_meet μ _ _ m18 m20 in
    let m22 = ⊑_meet μ _ _ o nil in
    let m23 = ⊑_meet μ _ _ m22 nil in
    let m24 = ⊑_meet μ _ _ m23 nil in
    let m25 = ⊑_meet μ _ _ m22 m24 in
    let m26 = ⊑_meet μ _ _ m3 nil in
    let m27 = ⊑_meet μ _ _ m26 nil in
    let m28 = ⊑_meet μ _ _ m3 m27 in
    let m29 = ⊑_meet μ _ _ m28 nil in
    let m30 = ⊑_meet μ _ _ m25 m29 in
    let m31 = ⊑_meet μ _ _ m21 m30 in
    let m32 = ⊑_meet μ _ _ m17 m31 in
    let m33 = ⊑_meet μ _ _ m32 m32 in
    (⊑_meet κ _ _ e (⊑_meet κ _ _ (⊑_meet κ _ _ e none) none), m33)
