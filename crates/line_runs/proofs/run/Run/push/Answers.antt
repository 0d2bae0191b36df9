use Rattle.std.proofs.Common.{◌++◌, ◌∷◌, ◌∙◌, []}
use Rattle.std.proofs.lemmas.Result.{IfOk-weaker}
use Rattle.line_runs.specs.Entries.{whole_entry}
use Rattle.line_runs.proofs.Entries.{whole_back}
use Rattle.line_runs.proofs.run.Run.push.Goals as goal

pub ended-requires : goal.ended-requires
ended-requires c = (c.self.inside.bytes.items, whole_entry c.args.key.now c.args.line.now, c.self.invariant, c.in_ok-put_entry.ensures)

pub returns : goal.returns
returns c =
    let key = c.args.key.now in
    let line = c.args.line.now in
    IfOk-weaker c.ended.result _ _ (λ run is. is c.self.inside.bytes.items (whole_entry key line) c.self.invariant c.in_ok-put_entry.ensures ∙ (λ i. c.self.view_is i ++ whole_back key line i ∷ [])) c.ended.ensures
