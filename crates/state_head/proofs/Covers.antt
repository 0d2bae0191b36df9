-- Stretches one after another: one more at the end, and what comes after some of them.
use Rattle.std.proofs.Common.{◌≡◌, ◌<◌, ◌+◌, ◌++◌, ◌∙◌, ℕ, List, [], ◌∷◌, None, Option, Some, length, length-append, refl, ap, sym, subst, arith, append_assoc, append-nil}
use Rattle.std.specs.List.{flat_map}
use Rattle.state_head.specs.Cover.{AreStretches, IsNext, stretch_bytes}
use Rattle.state_head.specs.declared.cover.Place.{Place}
use Rattle.state_head.specs.declared.cover.Stretch.{Stretch}
use Rattle.state_head.proofs.Reading.{GoesOn, IsReadTo, Left, none_read, one_more}

-- the place that is before what comes after some stretches
abbrev pub place_after : Option Place → List Stretch → Option Place
place_after before [] = before
place_after before (s ∷ more) = place_after (Some s.place) more

pub place-push : (before : Option Place) (found : List Stretch) (s : Stretch) → place_after before (found ++ s ∷ []) ≡ Some s.place
place-push before [] s = refl
place-push before (f ∷ found) s = place-push (Some f.place) found s

stretches-push : (sources : ℕ) (before : Option Place) (found : List Stretch) (s : Stretch) → AreStretches sources before found → IsNext sources (place_after before found) s → AreStretches sources before (found ++ s ∷ [])
stretches-push sources before [] s are is = (is, tt)
stretches-push sources before (f ∷ found) s are is = (are.0, stretches-push sources (Some f.place) found s are.1 is)

stretches-pop : (sources : ℕ) (before : Option Place) (found : List Stretch) (s : Stretch) (later : List Stretch) → AreStretches sources before (found ++ s ∷ later) → IsNext sources (place_after before found) s
stretches-pop sources before [] s later are = are.0
stretches-pop sources before (f ∷ found) s later are = stretches-pop sources (Some f.place) found s later are.1

-- this many stretches were written
abbrev pub Wrote : ℕ → ℕ → List Stretch → List ℕ → Type 0
Wrote sources count all more = AreStretches sources None all × (length all ≡ count)

-- this many stretches of a cover are read, and the last one is at this place
pub record IsCoverTo (sources count : ℕ) (bytes : List ℕ) (found : List Stretch) (before : Option Place) (rest : List ℕ) (at : ℕ) : Type 0 where
  pub so_far : IsReadTo stretch_bytes (AreStretches sources None) (Wrote sources count) bytes found rest
  pub last : before ≡ place_after None found
  pub many : length found ≡ at

pub no_stretch : (sources count : ℕ) (bytes : List ℕ) → IsCoverTo sources count bytes [] None bytes 0
no_stretch sources count bytes = record { so_far = none_read stretch_bytes (AreStretches sources None) (Wrote sources count) bytes tt; last = refl; many = refl }

-- what one more stretch of all that were written is
pub record IsOneMore (sources : ℕ) (before : Option Place) (rest : List ℕ) (tail : List Stretch) (more : List ℕ) : Type 0 where
  pub s : Stretch
  pub later : List Stretch
  pub next : IsNext sources before s
  pub is : tail ≡ s ∷ later
  pub begins : rest ≡ stretch_bytes s ++ (flat_map stretch_bytes later ++ more)

pub one_of : (sources count : ℕ) (bytes : List ℕ) (found : List Stretch) (before : Option Place) (rest : List ℕ) (at : ℕ) → IsCoverTo sources count bytes found before rest at → at < count
    → (all : List Stretch) (more : List ℕ) → Wrote sources count all more → (l : Left stretch_bytes all found rest more) → IsOneMore sources before rest l.tail more
one_of sources count bytes found before rest at is h all more wrote l = go l.tail l.whole l.left
  where
    go : (tail : List Stretch) → all ≡ found ++ tail → rest ≡ flat_map stretch_bytes tail ++ more → IsOneMore sources before rest tail more
    go [] e f =
        let long : length all ≡ length found + 0 = ap length e ∙ length-append found [] in
        let many = is.many in
        let count_is = wrote.1 in
        absurd (omega (arith, long, many, count_is, h))
    go (s ∷ later) e f = record {
      s = s;
      later = later;
      next = subst (λ (b : Option Place). IsNext sources b s) (sym is.last) (stretches-pop sources None found s later (subst (λ (ss : List Stretch). AreStretches sources None ss) e wrote.0));
      is = refl;
      begins = f ∙ append_assoc (stretch_bytes s) (flat_map stretch_bytes later) more;
    }

-- one stretch more is read
pub stretch_more : (sources count : ℕ) (bytes : List ℕ) (found : List Stretch) (before : Option Place) (rest : List ℕ) (at : ℕ) (x : Stretch) (after : List ℕ) → at < count → IsCoverTo sources count bytes found before rest at
    → rest ≡ stretch_bytes x ++ after → IsNext sources before x
    → ((s : Stretch) (more : List ℕ) → IsNext sources before s → rest ≡ stretch_bytes s ++ more → (x ≡ s) × (after ≡ more))
    → IsCoverTo sources count bytes (found ++ x ∷ []) (Some x.place) after (at + 1)
stretch_more sources count bytes found before rest at x after h is e next same =
    let many = is.many in
    let long : length (found ++ x ∷ []) ≡ length found + 1 = length-append found (x ∷ []) in
    record {
      so_far = one_more stretch_bytes (AreStretches sources None) (Wrote sources count) bytes found rest x after is.so_far e
          (stretches-push sources None found x is.so_far.are (subst (λ (b : Option Place). IsNext sources b x) is.last next))
          (λ all more wrote l.
          let o = one_of sources count bytes found before rest at is h all more wrote l in
          let m = same o.s (flat_map stretch_bytes o.later ++ more) o.next o.begins in
          record { later = o.later; is = o.is ∙ ap (λ (s : Stretch). s ∷ o.later) (sym m.0); left = m.1 });
      last = sym (place-push None found x);
      many = omega (arith, long, many);
    }

-- no stretch is read where one was written
pub stretch_none : (sources count : ℕ) (bytes : List ℕ) (found : List Stretch) (before : Option Place) (rest : List ℕ) (at : ℕ) → at < count → IsCoverTo sources count bytes found before rest at
    → ((s : Stretch) (more : List ℕ) → IsNext sources before s → rest ≡ stretch_bytes s ++ more → ⊥)
    → (all : List Stretch) (more : List ℕ) → Wrote sources count all more → bytes ≡ flat_map stretch_bytes all ++ more → ⊥
stretch_none sources count bytes found before rest at h is none all more wrote e =
    let o = one_of sources count bytes found before rest at is h all more wrote (is.so_far.left all more wrote e) in
    none o.s (flat_map stretch_bytes o.later ++ more) o.next o.begins

-- all stretches are read
pub stretch_all : (sources count : ℕ) (bytes : List ℕ) (found : List Stretch) (before : Option Place) (rest : List ℕ) (at : ℕ) → at ≡ count → IsCoverTo sources count bytes found before rest at
    → (all : List Stretch) (more : List ℕ) → Wrote sources count all more → bytes ≡ flat_map stretch_bytes all ++ more → (found ≡ all) × (rest ≡ more)
stretch_all sources count bytes found before rest at end is all more wrote e = go (is.so_far.left all more wrote e)
  where
    done : (tail : List Stretch) → all ≡ found ++ tail → rest ≡ flat_map stretch_bytes tail ++ more → (found ≡ all) × (rest ≡ more)
    done [] f g = (sym (f ∙ append-nil found), g)
    done (s ∷ tail) f g =
        let long : length all ≡ length found + length (s ∷ tail) = ap length f ∙ length-append found (s ∷ tail) in
        let many = is.many in
        let count_is = wrote.1 in
        absurd (omega (arith, long, many, count_is, end))

    go : Left stretch_bytes all found rest more → (found ≡ all) × (rest ≡ more)
    go l = done l.tail l.whole l.left
