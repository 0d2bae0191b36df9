use Rattle.std.proofs.Common.{ℕ, List, subst}
use Rattle.std.specs.Io.KnownBytes.{Appends}
use Rattle.state_query.specs.Inputs.{AreOneFile}
use Rattle.state_query.proofs.Known.{if_known}
use Rattle.state_query.proofs.combine.Goals as goal

pub returns-clause-states : goal.returns-clause-states
returns-clause-states g c =
    let old = g.O.Sink.taken c.args.out.now in
    let new = g.O.Sink.taken c.write_whole.new.sink in
    let file = c.in_ok-file.file.items in
    let wrote = subst (λ (bs : List ℕ). Appends old new bs) c.as_slice.ensures.value c.in_ok-write_whole.ensures.whole in
    if_known (g.S.Source.left c.args.source.now) (λ bytes. AreOneFile bytes file) (λ bytes. (x : List ℕ) × AreOneFile bytes x × Appends old new x) (λ bytes one. (file, one, wrote)) c.in_ok-file.ensures.one
