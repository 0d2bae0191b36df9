-- How many bytes a source gave, call after call.
use Rattle.std.proofs.Common.{inl, inr, ◌≡◌, ◌≤◌, ◌+◌, ◌++◌, ◌∙◌, ℕ, Bool, List, [], Option, None, Some, Result, Ok, Err, OnOk, ap, append_assoc, arith, length, length-append, refl, subst, sym}
use Rattle.std.specs.Io.KnownBytes.{Consumes}
use Rattle.par_io.specs.Faults.{Rose}
use Rattle.row_windows.specs.Stretch.{Fills, IsLongWindow, Stretch}
use Rattle.row_windows.specs.declared.window.WindowAnswer.{WindowAnswer}
use Rattle.row_windows.specs.declared.window.WindowAnswer.TheVariants as answer
use Rattle.stream_groups.specs.Taken.{Gives, IsCountOf, IsMore, Takes}
use Rattle.stream_groups.specs.declared.taken.Taken.{Taken}
use Rattle.stream_groups.specs.declared.taken.Taken.TheVariants as taken

consumes_none : (s : Option (List ℕ)) → Consumes s s []
consumes_none None = tt
consumes_none (Some xs) = refl

consumes_then : (a b c : Option (List ℕ)) (xs ys : List ℕ) → Consumes a b xs → Consumes b c ys → Consumes a c (xs ++ ys)
consumes_then None b c xs ys f g = tt
consumes_then (Some xs0) None c xs ys f g = absurd f
consumes_then (Some xs0) (Some bs) None xs ys f g = absurd g
consumes_then (Some xs0) (Some bs) (Some cs) xs ys f g = f ∙ (ap (λ (l : List ℕ). xs ++ l) g ∙ sym (append_assoc xs ys cs))

-- no call
pub takes_none : (s : Option (List ℕ)) (f : ℕ) (t : Taken) → Takes s s f f t t
takes_none s f (taken.Bytes n) = record { faults = omega arith; gives = (n, refl, [], consumes_none s, omega arith) }
takes_none s f taken.Fault = record { faults = omega arith; gives = inl refl }
takes_none s f taken.Memory = record { faults = omega arith; gives = tt }

rose_later : (a b c : ℕ) → Rose a b → b ≤ c → Rose a c
rose_later a b c rose low = omega (arith, rose, low)

rose_earlier : (a b c : ℕ) → a ≤ b → Rose b c → Rose a c
rose_earlier a b c low rose = omega (arith, rose, low)

gives_fault : (a b c : Option (List ℕ)) (f g h : ℕ) (t u : Taken) → g ≤ h → Gives a b f g t u → u ≡ taken.Fault → Gives a c f h t taken.Fault
gives_fault a b c f g h t (taken.Bytes n) low first e = cc e
gives_fault a b c f g h t taken.Fault low (inl e) _ = inl e
gives_fault a b c f g h t taken.Fault low (inr rose) _ = inr (rose_later f g h rose low)
gives_fault a b c f g h t taken.Memory low first e = cc e

gives_bytes : (a b c : Option (List ℕ)) (f g h : ℕ) (t u : Taken) (n m : ℕ) (more : List ℕ) → Gives a b f g t u → u ≡ taken.Bytes m → Consumes b c more → n ≡ m + length more → Gives a c f h t (taken.Bytes n)
gives_bytes a b c f g h t (taken.Bytes k) n m more (l, was, xs, first, count) e next last =
    let same : k ≡ m = cc e in
    (l, was, xs ++ more, consumes_then a b c xs more first next, omega (arith, count, last, same, length-append xs more))
gives_bytes a b c f g h t taken.Fault n m more first e next last = cc e
gives_bytes a b c f g h t taken.Memory n m more first e next last = cc e

gives_then : (a b c : Option (List ℕ)) (f g h : ℕ) (t u v : Taken) → f ≤ g → g ≤ h → Gives a b f g t u → Gives b c g h u v → Gives a c f h t v
gives_then a b c f g h t u (taken.Bytes n) low high first (m, was, more, next, count) = gives_bytes a b c f g h t u n m more first was next count
gives_then a b c f g h t u taken.Fault low high first (inl e) = gives_fault a b c f g h t u high first e
gives_then a b c f g h t u taken.Fault low high first (inr rose) = inr (rose_earlier f g h low rose)
gives_then a b c f g h t u taken.Memory low high first next = tt

-- one call after others
pub takes_then : (a b c : Option (List ℕ)) (f g h : ℕ) (t u v : Taken) → Takes a b f g t u → Takes b c g h u v → Takes a c f h t v
takes_then a b c f g h t u v first next = record {
  faults = omega (arith, first.faults, next.faults);
  gives = gives_then a b c f g h t u v first.faults next.faults first.gives next.gives;
}

more_gives : (old new : Option (List ℕ)) (f g : ℕ) (was now : Taken) (more : List ℕ) → Consumes old new more → IsMore was (length more) now → Gives old new f g was now
more_gives old new f g was (taken.Bytes n) more took (m, is, count) = (m, is, more, took, count)
more_gives old new f g was taken.Fault more took is = inl is
more_gives old new f g was taken.Memory more took is = tt

module _ (old new : Option (List ℕ)) (f g : ℕ) (rest lines text : List ℕ) (had : ℕ) (was : Taken) (low : f ≤ g) (size : had ≡ length rest) where
  takes_more : (now : Taken) → Fills old new rest (lines ++ text) → ((more : ℕ) → length lines + length text ≡ had + more → IsMore was more now) → Takes old new f g was now
  takes_more now (more, took, is) counted =
      let all : length lines + length text ≡ had + length more = omega (arith, size, ap length is, length-append lines text, length-append rest more) in
      record { faults = low; gives = more_gives old new f g was now more took (counted (length more) all) }

-- a window that was filled with what there was and more, or not
pub takes_filling : (old new : Option (List ℕ)) (f g : ℕ) (w v : Stretch) (had : ℕ) (was now : Taken) (r : Result Bool WindowAnswer) → f ≤ g → had ≡ length w.rest → OnOk r (Fills old new w.rest (v.lines ++ v.rest))
    → (r ≡ Err answer.ReadFault → Rose f g) → (r ≡ Err answer.LongRecord → IsLongWindow old new w v) → IsCountOf r had (length v.lines + length v.rest) was now → Takes old new f g was now
takes_filling old new f g w v had was now (Ok is_last) low size reads fault long counted = takes_more old new f g w.rest v.lines v.rest had was low size now reads counted
takes_filling old new f g w v had was now (Err answer.LongRecord) low size reads fault long counted =
    let l = long refl in
    takes_more old new f g w.rest v.lines v.rest had was low size now (subst (λ (t : List ℕ). Fills old new w.rest (t ++ v.rest)) (sym l.lines) l.reads) counted
takes_filling old new f g w v had was now (Err answer.ReadFault) low size reads fault long counted = subst (Takes old new f g was) (sym counted) (record { faults = low; gives = inr (fault refl) })
takes_filling old new f g w v had was now (Err answer.Memory) low size reads fault long counted = subst (Takes old new f g was) (sym counted) (record { faults = low; gives = tt })
