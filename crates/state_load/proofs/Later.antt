-- A file that is read before it is known what comes after it.
use Rattle.std.proofs.Common.{◌≡◌, ◌++◌, ◌∙◌, ℕ, List, ap, append_assoc, length, subst}
use Rattle.partial_agg.specs.Groups.{GroupsByKey}
use Rattle.state_blocks.specs.Blocks.{Group}
use Rattle.state_body.specs.Body.{IsBody, body_bytes, groups_of}
use Rattle.state_front.specs.Front.{front_bytes}
use Rattle.state_front.specs.declared.front.FrontRead.{FrontRead}
use Rattle.state_head.specs.Head.{Preface, Subject, preface_of}
use Rattle.state_head.specs.Words.{Keys}
use Rattle.state_load.specs.Faults.{CannotGoOn}
use Rattle.state_load.specs.Loading.{IsAlikeFront}
use Rattle.state_whole.specs.Sums.{AreNotAdded, HasBody, IsNoFile}
use Rattle.state_whole.specs.declared.adding.Shape.{Shape}
use Rattle.state_whole.specs.declared.files.FileFault.{FileFault}
use Rattle.state_whole.specs.declared.files.FileFault.TheVariants as fault

no_file : (shape : Shape) (m : GroupsByKey) (front : Preface) (at : ℕ) (bytes : List ℕ) (has : HasBody shape at bytes) (why : FileFault) → AreNotAdded shape m front.keys (groups_of has.blocks) why → IsNoFile shape m front at bytes why
no_file shape m front at bytes has fault.Memory none = tt
no_file shape m front at bytes has (fault.Body why) none = absurd none
no_file shape m front at bytes has (fault.Group why) none = (has, none)
no_file shape m front at bytes has fault.Refused none = absurd none
no_file shape m front at bytes has fault.Rows none = (has, none)

-- groups that are not added are not added whatever comes after their file
pub cannot_after : (shape : Shape) (subject : Subject) (keys : Keys) (m : GroupsByKey) (bytes more left : List ℕ) (found : FrontRead) (blocks : List (List Group)) (why : FileFault) → IsAlikeFront subject keys bytes found → IsBody shape.columns shape.kinds.now found.at blocks
    → found.rest.now ≡ body_bytes shape.kinds.now found.at blocks ++ left → AreNotAdded shape m (preface_of found.head).keys (groups_of blocks) why → CannotGoOn shape m (bytes ++ more) why
cannot_after shape subject keys m bytes more left found blocks why read is_body is none =
    let p = preface_of found.head in
    let rest = found.rest.now ++ more in
    let has : HasBody shape found.at rest = record {
      blocks = blocks;
      rest = left ++ more;
      is_body = is_body;
      is = ap (λ (bs : List ℕ). bs ++ more) is ∙ append_assoc (body_bytes shape.kinds.now found.at blocks) left more;
    } in
    record {
      front = p;
      is_front = read.is_front;
      rest = rest;
      is = ap (λ (bs : List ℕ). bs ++ more) read.is ∙ append_assoc (front_bytes p) found.rest.now more;
      none = subst (λ (n : ℕ). IsNoFile shape m p n rest why) read.at (no_file shape m p found.at rest has why none);
    }
