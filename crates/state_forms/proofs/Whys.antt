-- Why a form makes nothing of a range.
use Rattle.std.proofs.Common.{◌≡◌, ℕ, List, None, Option, Some, subst, sym}
use Rattle.std.specs.Prelude.{IfSome}
use Rattle.state_query.specs.Ranges.{IsRangeWhy}
use Rattle.state_query.specs.declared.stop.Stop.{Stop}
use Rattle.state_forms.specs.Forms.{IsFormWhy, above_in, below_in}
use Rattle.state_forms.specs.declared.forms.Form.{Form}
use Rattle.state_forms.specs.declared.forms.Form.TheVariants as form

pub of_range : (o : Option (List ℕ)) (named : Form) (words : List (List ℕ)) (above below : List ℕ) (why : Stop) → named ≡ form.Range → above ≡ above_in words → below ≡ below_in words → IfSome o (λ b. IsRangeWhy above below b why) → IfSome o (λ b. IsFormWhy named words b why)
of_range None named words above below why e low high is = tt
of_range (Some b) named words above below why e low high is =
    subst (λ (f : Form). IsFormWhy f words b why) (sym e) (subst (λ (x : List ℕ). IsRangeWhy x (below_in words) b why) low (subst (λ (y : List ℕ). IsRangeWhy above y b why) high is))
