-- What a drawer answers, read off its legal calls.
use Rattle.std.proofs.Common.{◌≡◌, ℕ, sym, ap, ◌∙◌, refl, subst}
use Rattle.std.specs.Prelude.{Option, Some, None, IsSome}
use Rattle.uses_book.specs.declared.asks.Answer.{Answer}
use Rattle.uses_book.specs.declared.asks.Answer.TheVariants.{Stored, Full, Taken, Empty}
use Rattle.uses_book.specs.declared.asks.Call.TheVariants.{Put, Take}
use Rattle.uses_book.specs.Drawers.{DrawerLegal, reply_of}

-- an empty drawer stores
pub stores : (tag : ℕ) (s t : Option ℕ) (a : Answer) → s ≡ None → DrawerLegal tag s Put (reply_of a) t → (w : ℕ) × (a ≡ Stored w) × (t ≡ Some w)
stores tag s t (Stored w) e h = (w, refl, h.1)
stores tag s t (Full p) e h = absurd (let i = subst (λ (o : Option ℕ). IsSome o) e h.0 in cc)
stores tag s t (Taken p w g) e h = absurd h
stores tag s t Empty e h = absurd h

-- a full drawer gives what it holds
pub gives_out : (tag w : ℕ) (s t : Option ℕ) (a : Answer) → s ≡ Some w → DrawerLegal tag s Take (reply_of a) t → (p : _) × (g : ℕ) × (a ≡ Taken p w g)
gives_out tag w s t (Stored x) e h = absurd h
gives_out tag w s t (Full p) e h = absurd h
gives_out tag w s t (Taken p x g) e h = let same : x ≡ w = (let k = h.0 in cc) in (p, g, ap (λ (z : ℕ). Taken p z g) same)
gives_out tag w s t Empty e h = absurd (let k = h.0 in cc)

-- the word that comes out is the word that went in
pub same_words : (s u : Option ℕ) (w x y : ℕ) (before at_end : Option ℕ) → before ≡ Some w → u ≡ Some w → s ≡ u → s ≡ Some x → at_end ≡ Some x → at_end ≡ Some y → before ≡ Some y
same_words s u w x y before at_end a b c d e f = a ∙ (sym b ∙ (sym c ∙ (d ∙ (sym e ∙ f))))
