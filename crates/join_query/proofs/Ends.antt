-- The clauses of a call that ended for a reason, over what words ask for.
use Rattle.std.proofs.Common.{◌≡◌, ◌≢◌, ◌⊎◌, ℕ, List, Option, None, Some, IfSome, refl, subst, sym}
use Rattle.std.specs.Prelude.{IsNone}
use Rattle.answer_text.specs.Lines.{line}
use Rattle.answer_text.specs.declared.status.TheConstants.{NO_MEMORY}
use Rattle.join_query.specs.Lines.{IsLine, IsNoFault, IsStatus, name_of}
use Rattle.join_query.specs.Stops.{IsExplained, stop_status, stop_text}
use Rattle.join_query.specs.Words.{Asked}
use Rattle.join_query.specs.declared.cause.Cause.TheVariants as cause
use Rattle.join_query.specs.declared.stop.Stop.{Stop}
use Rattle.join_query.specs.declared.stop.Stop.TheVariants as stop
use Rattle.join_query.proofs.Statuses.{stop_complete, stop_line, stop_outcome}

-- words that ask for no join
pub usage_explained : (left : Option (List ℕ)) → IsExplained None left (stop.Because cause.Usage)
usage_explained None = tt
usage_explained (Some bytes) = refl

module _ (asked words : Option Asked) (left : Option (List ℕ)) (why : Stop) (status : ℕ) where
  pub ends_complete : asked ≡ words → status ≡ stop_status why → IsExplained asked left why → (why ≢ stop.ReadFault) → (why ≢ stop.WriteFault)
      → IfSome left (λ bytes. (status ≡ NO_MEMORY) ⊎ IsStatus words bytes status)
  ends_complete same is explained read write =
      subst (λ (w : Option Asked). IfSome left (λ bytes. (status ≡ NO_MEMORY) ⊎ IsStatus w bytes status)) same
      (subst (λ (s : ℕ). IfSome left (λ bytes. (s ≡ NO_MEMORY) ⊎ IsStatus asked bytes s)) (sym is) (stop_complete asked left why explained read write))

  pub ends_outcome : asked ≡ words → status ≡ stop_status why → IsExplained asked left why → IsNoFault status → IfSome left (λ bytes. IsStatus words bytes status)
  ends_outcome same is explained fine =
      subst (λ (w : Option Asked). IfSome left (λ bytes. IsStatus w bytes status)) same
      (subst (λ (s : ℕ). IfSome left (λ bytes. IsStatus asked bytes s)) (sym is) (stop_outcome asked left why explained (subst IsNoFault is fine)))

  pub ends_line : asked ≡ words → status ≡ stop_status why → IsExplained asked left why → (IsNone asked → why ≡ stop.Because cause.Usage) → IsLine words left status (line (stop_text (name_of asked) why))
  ends_line same is explained none =
      subst (λ (w : Option Asked). IsLine w left status (line (stop_text (name_of asked) why))) same
      (subst (λ (s : ℕ). IsLine asked left s (line (stop_text (name_of asked) why))) (sym is) (stop_line asked left why explained none))
