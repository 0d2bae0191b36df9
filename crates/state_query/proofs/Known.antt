-- What is known of bytes that may be known.
use Rattle.std.proofs.Common.{◌≡◌, ◌++◌, ◌∙◌, Err, IfErr, Ok, Result, ℕ, List, None, Option, Some, inl, inr, subst, sym}
use Rattle.std.specs.Io.KnownBytes.{Consumes}
use Rattle.std.specs.Prelude.{IfSome}
use Rattle.state_source.proofs.Rests.{of_as, of_more}
use Rattle.state_source.specs.Reading.{OfLeft}
use Rattle.state_query.specs.Ranges.{IsRangeReadStop, IsRangeWhy}
use Rattle.state_query.specs.Whys.{IsReadStop, IsStopOf, IsWhy}
use Rattle.state_query.specs.declared.stop.Stop.{Stop}
use Rattle.state_query.specs.declared.stop.Stop.TheVariants as stop

-- what holds of all that a source has left holds of it if it is known
pub if_known : (o : Option (List ℕ)) (P Q : List ℕ → Type 0) → ((bytes : List ℕ) → P bytes → Q bytes) → OfLeft o P → IfSome o Q
if_known None P Q also is = tt
if_known (Some b) P Q also is = subst Q is.1 (also is.0 is.2)

why_read : (bytes : List ℕ) (why : Stop) → IsReadStop bytes why → IsWhy bytes why
why_read bytes why (inl e) = inl e
why_read bytes why (inr is) = inr (inr is)

pub why_known : (o : Option (List ℕ)) (why : Stop) → OfLeft o (λ bytes. IsReadStop bytes why) → IfSome o (λ bytes. IsWhy bytes why)
why_known o why is = if_known o (λ bytes. IsReadStop bytes why) (λ bytes. IsWhy bytes why) (λ bytes. why_read bytes why) is

range_read : (above below bytes : List ℕ) (why : Stop) → IsRangeReadStop above below bytes why → IsRangeWhy above below bytes why
range_read above below bytes why (inl e) = inl e
range_read above below bytes why (inr is) = inr (inr is)

pub range_why_known : (o : Option (List ℕ)) (above below : List ℕ) (why : Stop) → OfLeft o (λ bytes. IsRangeReadStop above below bytes why) → IfSome o (λ bytes. IsRangeWhy above below bytes why)
range_why_known o above below why is = if_known o (λ bytes. IsRangeReadStop above below bytes why) (λ bytes. IsRangeWhy above below bytes why) (λ bytes. range_read above below bytes why) is

-- a reason of the bytes of a source is one of words and bytes
to_range : (above below bytes : List ℕ) (why : Stop) → IsReadStop bytes why → IsRangeReadStop above below bytes why
to_range above below bytes why (inl e) = inl e
to_range above below bytes why (inr is) = inr (inr is)

pub ranged : (was left : Option (List ℕ)) (above below first : List ℕ) (why : Stop) → Consumes was left first → OfLeft left (λ more. IsReadStop (first ++ more) why) → OfLeft was (λ bytes. IsRangeReadStop above below bytes why)
ranged was left above below first why read is =
    of_more was left first (λ bytes. IsRangeReadStop above below bytes why) read
    (of_as left (λ more. IsReadStop (first ++ more) why) (λ more. IsRangeReadStop above below (first ++ more) why) (λ more. to_range above below (first ++ more) why) is)

-- ---- what is no reason of some bytes

pub no_read : (bytes : List ℕ) (why : Stop) → IsStopOf bytes why → why ≡ stop.ReadFault → ⊥
no_read bytes why is e = subst (IsStopOf bytes) e is

pub no_write : (o : Option (List ℕ)) (why : Stop) → OfLeft o (λ bytes. IsReadStop bytes why) → why ≡ stop.WriteFault → ⊥
no_write o why is e = by is.2
  where
    by : IsReadStop is.0 why → ⊥
    by (inl f) = let no : stop.ReadFault ≡ stop.WriteFault = sym f ∙ e in absurd cc
    by (inr f) = subst (IsStopOf is.0) e f

-- ---- results

pub err_as : {T E : Type 0} (r : Result T E) (P Q : E → Type 0) → ((x : E) → P x → Q x) → IfErr r P → IfErr r Q
err_as (Ok x) P Q also is = tt
err_as (Err e) P Q also is = also e is
