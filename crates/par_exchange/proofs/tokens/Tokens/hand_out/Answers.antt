use Rattle.std.proofs.Common.{◌∙◌, ap, length, sym}
use Rattle.par_exchange.specs.States.{cleared}
use Rattle.par_exchange.proofs.Ways.{all_spare, as_many}
use Rattle.par_exchange.proofs.tokens.Tokens.hand_out.Goals as goal

pub invariant_of-self : goal.invariant_of-self
invariant_of-self g c =
    let d = c.self.inside in
    let inv = c.self.invariant in
    let many = as_many d.parties d.brought.items d.given.items d.spare.items d.present.items d.elected c.args.self.now c.self.view_is c.args.tokens.items inv.2 c.requires.fits in
    let old = ap (λ v. length v.items) c.replace.ensures.value ∙ inv.1 in
    let empty = c.clear_all.ensures ∙ ap cleared c.as_mut_slice.ensures.value in
    (inv.0, ap (λ v. length v.items) c.replace.ensures.after ∙ many, inv.2, λ _. all_spare d.parties c.replace.result.items c.clear_all.new.places c.replace.result.len old (sym c.as_mut_slice.ensures.len ∙ sym c.clear_all.auto.places) empty)
