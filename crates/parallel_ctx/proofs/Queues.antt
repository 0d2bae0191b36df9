-- The lead's ends, one after another.
use Rattle.std.proofs.Common.{◌≡◌, ◌<◌, ℕ, zero, suc, List, [], ◌∷◌, ◌++◌, take, length, set, get_or, map, All, refl, ap, ◌∙◌, arith}
use Rattle.std.specs.List.{AllZip}
use Rattle.std.proofs.lemmas.List.Elements.{All-cons, All-head, All-nil, All-tail}
use Rattle.atomic_table.specs.Seated.{TableId}
use Rattle.parallel_ctx.specs.declared.tokens.LeaderEnds.{LeaderEnds}
use Rattle.parallel_ctx.specs.declared.tokens.Shared.{Shared}
use Rattle.parallel_ctx.specs.Accounts.{heard}
use Rattle.parallel_ctx.specs.Tokens.{AreHere, AreUnheard, SameQueues}

pub same-refl : (q : LeaderEnds) → SameQueues q q
same-refl q = record { errors_region = refl; errors_ring = refl; tuples_region = refl; tuples_ring = refl }

pub same-trans : (p q r : LeaderEnds) → SameQueues p q → SameQueues q r → SameQueues p r
same-trans p q r a b = record {
  errors_region = b.errors_region ∙ a.errors_region;
  errors_ring = b.errors_ring ∙ a.errors_ring;
  tuples_region = b.tuples_region ∙ a.tuples_region;
  tuples_ring = b.tuples_ring ∙ a.tuples_ring;
}

pub all-same : (qs : List LeaderEnds) → AllZip SameQueues qs qs
all-same [] = tt
all-same (q ∷ qs) = (same-refl q, all-same qs)

pub same-put : (ps qs : List LeaderEnds) (k : ℕ) (d q : LeaderEnds) → k < length qs → AllZip SameQueues ps qs → SameQueues (get_or qs k d) q → AllZip SameQueues ps (set qs k q)
same-put [] [] k d q h z s = tt
same-put [] (x ∷ qs) k d q h z s = absurd z
same-put (p ∷ ps) [] k d q h z s = absurd z
same-put (p ∷ ps) (x ∷ qs) zero d q h z s = (same-trans p x q z.0 s, z.1)
same-put (p ∷ ps) (x ∷ qs) (suc k) d q h z s = (z.0, same-put ps qs k d q (omega arith) z.1 s)

pub heard-put : (qs : List LeaderEnds) (k : ℕ) (d q : LeaderEnds) → k < length qs → heard q ≡ heard (get_or qs k d) → map heard (set qs k q) ≡ map heard qs
heard-put [] k d q h e = absurd (omega arith)
heard-put (x ∷ qs) zero d q h e = ap (λ y. y ∷ map heard qs) e
heard-put (x ∷ qs) (suc k) d q h e = ap (λ l. heard x ∷ l) (heard-put qs k d q (omega arith) e)

pub here-after : (region : TableId) (p q : LeaderEnds) → AreHere region p → SameQueues p q → AreHere region q
here-after region p q h s = record { errors = s.errors_region ∙ h.errors; tuples = s.tuples_region ∙ h.tuples }

pub all_here : (w : Shared) (ps qs : List LeaderEnds) → All (AreUnheard w) ps → AllZip SameQueues ps qs → All (AreHere w.region) qs
all_here w [] [] h z = All-nil (AreHere w.region)
all_here w [] (q ∷ qs) h z = absurd z
all_here w (p ∷ ps) [] h z = absurd z
all_here w (p ∷ ps) (q ∷ qs) h z =
    let head = All-head (AreUnheard w) p ps h in
    All-cons (AreHere w.region) q qs (here-after w.region p q (record { errors = head.errors.here; tuples = head.tuples.here }) z.0) (all_here w ps qs (All-tail (AreUnheard w) p ps h) z.1)

pub written_back : {A : Type 0} (n : ℕ) (xs rest : List A) → n ≡ length xs → take n (xs ++ rest) ≡ xs
written_back {A = A} n xs rest e = ap (λ k. take k (xs ++ rest)) e ∙ by xs
  where
    by : (xs : List A) → take (length xs) (xs ++ rest) ≡ xs
    by [] = refl
    by (x ∷ xs) = ap (λ l. x ∷ l) (by xs)
