-- What a text that is being sifted gives.
use Rattle.std.proofs.Common.{◌≡◌, ◌++◌, ◌∙◌, inl, inr, ℕ, Bool, true, List, [], Option, None, Some, ap, append_assoc, refl, subst, sym}
use Rattle.std.specs.Prelude.{if◌then◌else◌, option_map}
use Rattle.std.specs.Io.KnownBytes.{Consumes, IsAtEnd, Keeps, prepend_known}
use Rattle.std.proofs.lemmas.Bool.{cases_Bool}
use Rattle.par_io.specs.Faults.{one_more}
use Rattle.good_groups.specs.Opened.{Opened}
use Rattle.good_groups.specs.Sifting.{GoesOn, IsHalted, IsSifting, rest_left, sifting_left}
use Rattle.good_groups.specs.declared.sieve.Sifting.{Sifting}
use Rattle.good_groups.specs.declared.sifter.Halt.{Halt}
use Rattle.good_groups.specs.declared.sifter.Halt.TheVariants as halt
use Rattle.good_groups.specs.declared.sifter.Rules.{Rules}

prepends : (ahead ahead' bytes : List ℕ) (left : Option (List ℕ)) → ahead ≡ bytes ++ ahead' → Consumes (prepend_known ahead left) (prepend_known ahead' left) bytes
prepends ahead ahead' bytes None is = tt
prepends ahead ahead' bytes (Some rest) is = ap (λ (t : List ℕ). t ++ rest) is ∙ append_assoc bytes ahead' rest

consumes_then : (x y z : Option (List ℕ)) (bytes : List ℕ) → Keeps x y → Consumes y z bytes → Consumes x z bytes
consumes_then None y z bytes f g = tt
consumes_then (Some x) None z bytes f g = absurd f
consumes_then (Some x) (Some y) None bytes f g = absurd g
consumes_then (Some x) (Some y) (Some z) bytes f g = sym f ∙ g

-- what is left after the bytes ahead, if the source has this left
abbrev behind : Rules → Option (List ℕ) → Sifting → Option (List ℕ)
behind r left s = if s.is_done then left else option_map (rest_left r s.sifter) (prepend_known s.sifter.pending left)

by_parts : (r : Rules) (left : Option (List ℕ)) (s : Sifting) (ahead : List ℕ) → sifting_left r left (record s { sifter = record s.sifter { ahead = ahead } }) ≡ prepend_known ahead (behind r left s)
by_parts r left s ahead = elim (cases_Bool s.is_done) [
  | inl is ↦ rw is refl
  | inr is ↦ rw is refl
]

-- some bytes were given
pub gives : (o : Opened) (r : Rules) (old new : Option (List ℕ)) (a b : Sifting) (ahead bytes : List ℕ) → GoesOn o r old new a b → b.sifter.ahead ≡ bytes ++ ahead → Consumes (sifting_left r old a) (sifting_left r new (record b { sifter = record b.sifter { ahead = ahead } })) bytes
gives o r old new a b ahead bytes goes is =
    let now : Sifting = record b { sifter = record b.sifter { ahead = ahead } } in
    consumes_then (sifting_left r old a) (sifting_left r new b) (sifting_left r new now) bytes goes.keeps
    (subst (λ x. Consumes x (sifting_left r new now) bytes) (sym (by_parts r new b b.sifter.ahead)) (subst (λ x. Consumes (prepend_known b.sifter.ahead (behind r new b)) x bytes) (sym (by_parts r new b ahead)) (prepends b.sifter.ahead ahead bytes (behind r new b) is)))

at_end : (left : Option (List ℕ)) (ahead : List ℕ) → ahead ≡ [] → IsAtEnd left → IsAtEnd (prepend_known ahead left)
at_end None ahead none end = tt
at_end (Some rest) ahead none end = ap (λ (t : List ℕ). t ++ rest) none ∙ end

-- none are left
pub gives_none : (o : Opened) (r : Rules) (left : Option (List ℕ)) (b : Sifting) (ahead : List ℕ) → IsSifting o left r b → b.is_done ≡ true → ahead ≡ [] → IsAtEnd (sifting_left r left (record b { sifter = record b.sifter { ahead = ahead } }))
gives_none o r left b ahead is done none =
    subst IsAtEnd (sym (by_parts r left b ahead ∙ ap (λ (d : Bool). prepend_known ahead (if d then left else option_map (rest_left r b.sifter) (prepend_known b.sifter.pending left))) done)) (at_end left ahead none (is.done done).end)

halted_given : (o : Opened) (h : Option Halt) (b : Sifting) (ahead : List ℕ) → IsHalted o h b → IsHalted o h (record b { sifter = record b.sifter { ahead = ahead } })
halted_given o None b ahead is = is
halted_given o (Some halt.TooMany) b ahead is = is
halted_given o (Some halt.Long) b ahead is = is
halted_given o (Some halt.Memory) b ahead is = is

-- it is one still
pub given_is : (o : Opened) (r : Rules) (left : Option (List ℕ)) (b : Sifting) (ahead : List ℕ) → IsSifting o left r b → IsSifting o left r (record b { sifter = record b.sifter { ahead = ahead } })
given_is o r left b ahead is = record {
  going = λ e. let was = is.going e in record { rows = was.rows; counted = was.counted; begun = was.begun; cut = was.cut; few = was.few; read = was.read };
  done = λ e. let was = is.done e in record { rows = was.rows; counted = was.counted; all = was.all; end = was.end };
  halted = halted_given o b.halt b ahead is.halted;
}

-- memory ran out
pub lacking : (o : Opened) (r : Rules) (left : Option (List ℕ)) (a b : Sifting) → b ≡ record a { halt = Some halt.Memory; lacks = one_more a.lacks } → GoesOn o r left left a b
lacking o r left a b is = subst (λ (x : Sifting). GoesOn o r left left a x) (sym is) (record {
  keeps = same (sifting_left r left a);
  is = λ s. record { going = s.going; done = s.done; halted = tt };
})
  where
    same : (x : Option (List ℕ)) → Keeps x x
    same None = tt
    same (Some x) = refl
