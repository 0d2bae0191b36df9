use Rattle.std.proofs.Common.{◌++◌, ◌∷◌, ◌∙◌, []}
use Rattle.std.proofs.lemmas.Result.{IfOk-weaker}
use Rattle.line_runs.specs.Entries.{entry_in}
use Rattle.line_runs.proofs.run.Run.push_entry.Goals as goal

pub ended-requires : goal.ended-requires
ended-requires c = (c.self.inside.bytes.items, c.args.entry.now, c.self.invariant, c.in_ok-extend_from_slice.ensures.items)

pub returns : goal.returns
returns c =
    IfOk-weaker c.ended.result _ _
    (λ run is. is c.self.inside.bytes.items c.args.entry.now c.self.invariant c.in_ok-extend_from_slice.ensures.items ∙ (λ i. c.self.view_is i ++ entry_in c.args.entry.now ∷ [])) c.ended.ensures
