use Rattle.std.proofs.Common.{◌≡◌, List, ℕ, Some, inl, subst}
use Rattle.std.proofs.lemmas.Result.{IfOk-weaker}
use Rattle.std.specs.Global.{Vec}
use Rattle.shell_memory.proofs.Named.{found-by}
use Rattle.shell_memory.specs.Chunks.{chunk_of, name_beside}
use Rattle.shell_memory.proofs.contents.found.Goals as goal

pub returns-in-Some : goal.returns-in-Some
returns-in-Some c =
    let chunks = c.args.chunks.now in
    let key = found-by (λ (k : Vec ℕ). k.items) (name_beside chunks.places c.args.place) c.in-Some.name.now c.in-Some.ensures in
    let chunk = c.requires.1.right c.args.place key.0 key.1 in
    let named = subst (λ (l : List ℕ). chunk_of chunks l ≡ Some chunk.0) key.2 chunk.1 in
    IfOk-weaker c.with_bytes.result _ _ (λ line text. inl (c.in-Some.name.now, chunk.0, named, chunk.2, text)) c.with_bytes.ensures
