-- One file: what is read of it, and why it is not taken.
use Rattle.std.proofs.Common.{◌≡◌, ◌++◌, ◌∙◌, ℕ, List, ap, length, subst, sym}
use Rattle.partial_agg.specs.Groups.{GroupsByKey}
use Rattle.state_blocks.specs.Blocks.{Group, blocks_bytes}
use Rattle.state_body.specs.Body.{IsBody, body_bytes, groups_of}
use Rattle.state_front.specs.Front.{front_bytes}
use Rattle.state_front.specs.declared.front.FrontRead.{FrontRead}
use Rattle.state_head.specs.Head.{Preface, Subject, preface_of}
use Rattle.state_head.specs.Words.{Keys}
use Rattle.state_head.specs.declared.cover.Stretch.{Stretch}
use Rattle.state_load.specs.Faults.{CannotGoOn, IsNoAlike, IsNoPart}
use Rattle.state_load.specs.Loading.{IsAlikeFront, IsLookedAt, IsPart}
use Rattle.state_load.specs.declared.loading.LoadCause.{LoadCause}
use Rattle.state_load.specs.declared.loading.LoadCause.TheVariants as cause
use Rattle.state_load.specs.declared.look.LookedAt.{LookedAt}
use Rattle.state_load.proofs.Loads.{file_is}
use Rattle.state_whole.specs.Adding.{sum_with}
use Rattle.state_whole.specs.Alike.{DiffersIn, RangesDiffer}
use Rattle.state_whole.specs.Files.{StateFile, file_bytes, tuples_in}
use Rattle.state_whole.specs.Sums.{AreFileGroups, AreSummed, IsNoFile}
use Rattle.state_whole.specs.declared.adding.Shape.{Shape}
use Rattle.state_whole.specs.declared.alike.OtherFile.{OtherFile}
use Rattle.state_whole.specs.declared.alike.OtherFile.TheVariants.{Header, Plan, Range, Sources}
use Rattle.state_whole.specs.declared.files.FileFault.{FileFault}
use Rattle.state_whole.specs.declared.files.Sum.{Sum}

-- ---- what a front says

-- what is the same does not differ
pub same_subject : (a b : Subject) (why : OtherFile) → DiffersIn a b why → b ≡ a → ⊥
same_subject a b Plan differs same = differs (ap (λ (s : Subject). s.words) same)
same_subject a b Header differs same = differs (ap (λ (s : Subject). s.header) same)
same_subject a b Sources differs same = differs (ap (λ (s : Subject). s.sources) same)
same_subject a b Range differs same = differs

pub same_range : (a b : Keys) (why : OtherFile) → RangesDiffer a b why → b ≡ a → ⊥
same_range a b Plan differs same = differs
same_range a b Header differs same = differs
same_range a b Sources differs same = differs
same_range a b Range differs same = differs same

-- ---- why a file is not taken

pub not_alike : (shape : Shape) (subject : Subject) (keys : Keys) (m : GroupsByKey) (bytes : List ℕ) (why : LoadCause) → IsNoAlike subject keys bytes why → IsNoPart shape subject keys m bytes why
not_alike shape subject keys m bytes (cause.Front why) none = none
not_alike shape subject keys m bytes (cause.Other why) none = none
not_alike shape subject keys m bytes (cause.File why) none = absurd none

pub cannot_go_on : (shape : Shape) (subject : Subject) (keys : Keys) (m : GroupsByKey) (bytes : List ℕ) (found : FrontRead) (why : FileFault) → IsAlikeFront subject keys bytes found
    → IsNoFile shape m (preface_of found.head) found.at found.rest.now why → CannotGoOn shape m bytes why
cannot_go_on shape subject keys m bytes found why read none = record {
  front = preface_of found.head;
  is_front = read.is_front;
  rest = found.rest.now;
  is = read.is;
  none = subst (λ (n : ℕ). IsNoFile shape m (preface_of found.head) n found.rest.now why) read.at none;
}

-- ---- a file that is taken

abbrev file_of : FrontRead → List (List Group) → StateFile
file_of found blocks = record { preface = preface_of found.head; blocks = blocks }

pub is_part : (shape : Shape) (subject : Subject) (keys : Keys) (m : GroupsByKey) (cover : List Stretch) (bytes : List ℕ) (found : FrontRead) (after : List ℕ) (blocks : List (List Group)) (sum : Sum) → IsAlikeFront subject keys bytes found
    → AreFileGroups shape.columns shape.kinds.now (preface_of found.head) found.at blocks → found.rest.now ≡ body_bytes shape.kinds.now found.at blocks ++ after
    → AreSummed (sum_with shape m (groups_of blocks)) (cover ++ found.head.cover.items) sum
    → (f : StateFile) × IsPart shape subject keys f × (bytes ≡ file_bytes shape.kinds.now f ++ after) × AreSummed (sum_with shape m (tuples_in f)) (cover ++ f.preface.cover) sum
is_part shape subject keys m cover bytes found after blocks sum read groups is summed =
    let p = preface_of found.head in
    let f = file_of found blocks in (
      f,
      record {
        is_file = record { is_front = read.is_front; are_groups = subst (λ (n : ℕ). AreFileGroups shape.columns shape.kinds.now p n blocks) read.at groups };
        is_alike = record { subject_is = read.subject_is; keys_are = read.keys_are };
      },
      read.is ∙ ap (λ (bs : List ℕ). front_bytes p ++ bs) (is ∙ ap (λ (n : ℕ). body_bytes shape.kinds.now n blocks ++ after) read.at) ∙ sym (file_is shape f after),
      summed,
    )

-- a file that was looked at
pub looked_at : (shape : Shape) (subject : Subject) (keys : Keys) (bytes : List ℕ) (found : FrontRead) (blocks : List (List Group)) (at : LookedAt) → IsAlikeFront subject keys bytes found
    → AreFileGroups shape.columns shape.kinds.now (preface_of found.head) found.at blocks → found.rest.now ≡ body_bytes shape.kinds.now found.at blocks ++ at.rest.now
    → at.blocks.now ≡ blocks_bytes shape.kinds.now blocks → at.front.head.cover.items ≡ found.head.cover.items → IsLookedAt shape subject keys bytes at
looked_at shape subject keys bytes found blocks at read groups is has cover =
    let p = preface_of found.head in
    let f = file_of found blocks in
    record {
      f = f;
      is_part = record {
        is_file = record { is_front = read.is_front; are_groups = subst (λ (n : ℕ). AreFileGroups shape.columns shape.kinds.now p n blocks) read.at groups };
        is_alike = record { subject_is = read.subject_is; keys_are = read.keys_are };
      };
      is = read.is ∙ ap (λ (bs : List ℕ). front_bytes p ++ bs) (is ∙ ap (λ (n : ℕ). body_bytes shape.kinds.now n blocks ++ at.rest.now) read.at) ∙ sym (file_is shape f at.rest.now);
      cover_is = cover;
      blocks_are = has;
    }

-- what was written is read
pub record WasWritten (shape : Shape) (f : StateFile) (found : FrontRead) (rest : List ℕ) : Type 0 where
  pub preface_is : preface_of found.head ≡ f.preface
  pub is_body : IsBody shape.columns shape.kinds.now found.at f.blocks
  pub is : found.rest.now ≡ body_bytes shape.kinds.now found.at f.blocks ++ rest

pub was_written : (shape : Shape) (subject : Subject) (keys : Keys) (bytes : List ℕ) (f : StateFile) (found : FrontRead) (rest : List ℕ) → IsAlikeFront subject keys bytes found → IsPart shape subject keys f
    → preface_of found.head ≡ f.preface → found.rest.now ≡ body_bytes shape.kinds.now (length (front_bytes f.preface)) f.blocks ++ rest → WasWritten shape f found rest
was_written shape subject keys bytes f found rest read part same is =
    let at : length (front_bytes f.preface) ≡ found.at = sym (read.at ∙ ap (λ (p : Preface). length (front_bytes p)) same) in
    record {
      preface_is = same;
      is_body = subst (λ (n : ℕ). IsBody shape.columns shape.kinds.now n f.blocks) at part.is_file.are_groups.is_body;
      is = is ∙ ap (λ (n : ℕ). body_bytes shape.kinds.now n f.blocks ++ rest) at;
    }
