use Rattle.std.proofs.Common.{ap, sym, subst, ◌∙◌, nat_cmp}
use Rattle.std.specs.Cmp.Lexicographic.{slice_cmp}
use Rattle.std.specs.FinMap as fin
use Rattle.dshash_parts.specs.Asked.{name_of, AnswerFits}
use Rattle.dshash_parts.specs.declared.asks.TableAnswer.TheVariants.{Entries, Size}
use Rattle.dshash_parts.proofs.numbered.NumberedKept.apply.Goals as goal

pub returns-in-None-clause-output : goal.returns-in-None-clause-output
returns-in-None-clause-output g c =
    let none = c.in-None.ensures.none in
    subst (λ ask. AnswerFits (name_of c.args.self.now.number c.args.self.now.partition) ask (Size c.size-in-None.result c.count-in-None.result)) (sym c.in-Take.is)
    (c.count-in-None.ensures.is ∙ (ap (λ p. fin.len p.cells) none.1 ∙ (ap fin.len none.0 ∙ fin.len-empty (slice_cmp nat_cmp) g.row.O-State.Denot)))

pub returns-in-List-clause-output : goal.returns-in-List-clause-output
returns-in-List-clause-output g c = subst (λ ask. AnswerFits (name_of c.args.self.now.number c.args.self.now.partition) ask (Entries c.list.result)) (sym c.in-List.is) c.list.ensures.keys
