-- The file that is written.
use Rattle.std.proofs.Common.{◌≡◌, ◌<◌, ◌++◌, ◌∙◌, ℕ, Bool, List, [], All, ap, append_assoc, get_or, length, map, refl, subst, sym}
use Rattle.std.proofs.lemmas.List.{length-map}
use Rattle.std.proofs.lemmas.List.Elements.{All-map}
use Rattle.std.proofs.lemmas.List.Sorted.{All-permutation, length_permutation}
use Rattle.partial_agg.specs.declared.groups.Group.{Group as MapGroup}
use Rattle.state_blocks.specs.Blocks.{Group, IsTuple}
use Rattle.state_body.specs.Body.{IsBody, body_bytes}
use Rattle.state_front.specs.Front.{IsFront, front_bytes}
use Rattle.state_head.specs.Head.{Preface}
use Rattle.state_save.specs.Saving.{AreTuplesOf, AreWritten, IsFileOf, IsTold, SavedIsRead, tuple_of}
use Rattle.state_order.specs.Order.{IsIn}
use Rattle.state_save.proofs.Slots.{is_tuple}
use Rattle.state_whole.specs.Adding.{IsShape, key_of}
use Rattle.state_whole.specs.Files.{StateFile, file_bytes, tuples_in}
use Rattle.state_whole.specs.Sums.{AreFileGroups}
use Rattle.state_whole.specs.declared.adding.Shape.{Shape}
use Rattle.state_writer.specs.Writing.{blocks_of}
use Rattle.state_writer.proofs.Laws.{blocks_have, body_is}

-- all tuples are such as rows can give, if each group is told by one
pub all_tuples : (shape : Shape) (groups : List MapGroup) (tuples : List Group) → IsShape shape → AreTuplesOf shape groups tuples → All (IsTold shape) groups → All (IsTuple shape.columns shape.kinds.now) tuples
all_tuples shape groups tuples is are told =
    All-permutation (IsTuple shape.columns shape.kinds.now) (map (tuple_of shape) groups) tuples are.same
    (All-map (IsTuple shape.columns shape.kinds.now) (tuple_of shape) groups (λ k d lt. is_tuple shape (get_or groups k d) is (told k d lt)))

put_at : (kinds : List Bool) (preface : Preface) (blocks : List (List Group)) (at : ℕ) (more : List ℕ) → at ≡ length (front_bytes preface) → more ≡ body_bytes kinds at blocks → front_bytes preface ++ more ≡ file_bytes kinds (record { preface = preface; blocks = blocks })
unfolding file_bytes
put_at kinds preface blocks at more same is = ap (λ (bs : List ℕ). front_bytes preface ++ bs) (is ∙ ap (λ (n : ℕ). body_bytes kinds n blocks) same)

-- a front, and what comes after it
pub is_file : (shape : Shape) (preface : Preface) (groups : List MapGroup) (at : ℕ) (old mid new : List ℕ) → IsShape shape → mid ≡ old ++ front_bytes preface → at ≡ length (front_bytes preface) → AreWritten shape groups at mid new
    → (f : StateFile) × IsFileOf shape preface groups f × (new ≡ old ++ file_bytes shape.kinds.now f)
is_file shape preface groups at old mid new is front same written =
    let kinds = shape.kinds.now in
    let blocks = blocks_of kinds written.tuples in
    let f : StateFile = record { preface = preface; blocks = blocks } in
    let ends = written.ends in (
      f,
      record {
        preface_is = refl;
        are = subst (AreTuplesOf shape groups) (sym (blocks_have kinds written.tuples)) written.are;
        is_body = λ told. subst (λ (n : ℕ). IsBody shape.columns kinds n blocks) same (body_is shape.columns kinds at written.tuples [] mid new (all_tuples shape groups written.tuples is written.are told) ends);
      },
      ends.is ∙ ap (λ (bs : List ℕ). bs ++ ends.more) front ∙ append_assoc old (front_bytes preface) ends.more ∙ ap (λ (bs : List ℕ). old ++ bs) (put_at kinds preface blocks at ends.more same ends.body),
    )

-- ---- what is saved is read

pub saved_read : SavedIsRead
saved_read shape preface groups f can is =
    let counts : length (tuples_in f) ≡ length groups = length_permutation (map (tuple_of shape) groups) (tuples_in f) is.are.same ∙ length-map groups (tuple_of shape) in
    let within = All-permutation (λ (t : Group). IsIn shape.columns preface.keys t.key) (map (tuple_of shape) groups) (tuples_in f) is.are.same (All-map (λ (t : Group). IsIn shape.columns preface.keys t.key) (tuple_of shape) groups can.within) in
    record {
      is_front = subst IsFront (sym is.preface_is) can.is_front;
      are_groups = subst (λ (p : Preface). AreFileGroups shape.columns shape.kinds.now p (length (front_bytes p)) f.blocks) (sym is.preface_is) (record {
        is_body = is.is_body can.told;
        in_order = record { rise = is.are.rise; each = All-map (IsIn shape.columns preface.keys) key_of (tuples_in f) within };
        counted = λ some refused. can.counted (subst (λ (n : ℕ). 0 < n) counts some) refused;
      });
    }
