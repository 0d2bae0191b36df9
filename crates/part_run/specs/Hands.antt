-- What the participants do with a batch.
use Rattle.std.specs.Prelude.{◌≡◌, ◌<◌, [], ℕ, List, All, IfSome, IsTrue, None, length, min, slice_index_or}
use Rattle.scan_claim.specs.Drawing.{is_spent}
use Rattle.scan_claim.specs.Shown.{Belongs, blocks_of, draws_of, number_of}
use Rattle.scan_claim.specs.declared.claims.Claims.{Claims}
use Rattle.par_model.specs.Plan.{Plan}
use Rattle.row_windows.specs.Stretch.{Stretch}
use Rattle.split_run.specs.Causes.{SomeRefused}
use Rattle.split_run.specs.Hands.{most}
use Rattle.split_run.specs.Pieces.{AreAccepted, drawn_rows}
use Rattle.partial_agg.specs.declared.map.BlockAnswer.{BlockAnswer}
use Rattle.part_run.specs.Carrying.{spread}
use Rattle.part_run.specs.declared.hands.Hand.{Hand}

-- a participant that found no more pieces: its lists have the rows of those that it drew, and none of these is refused
pub record HasSpread (plan : Plan) (pieces : List Stretch) (c : Claims) (f g : Hand) : Type 0 where
  pub spent : IsTrue (is_spent (blocks_of c) (draws_of g.claim))
  pub lists : g.lists ≡ spread plan f.lists (drawn_rows pieces (draws_of g.claim))
  pub accepted : AreAccepted plan pieces (drawn_rows pieces (draws_of g.claim))
  pub count : g.count ≡ min (length (drawn_rows pieces (draws_of g.claim))) most

-- what a participant has done: it has kept its seat, and read all rows of its pieces or stopped at one
pub record HasDone (plan : Plan) (pieces : List Stretch) (c : Claims) (f g : Hand) : Type 0 where
  pub seat : Belongs c g.claim
  pub number : number_of g.claim ≡ number_of f.claim
  pub read : g.stopped ≡ None → HasSpread plan pieces c f g
  pub stopped : IfSome g.stopped (SomeRefused plan pieces)

-- participants with seats that have drawn nothing
pub record IsNew (c : Claims) (h : Hand) : Type 0 where
  pub seat : Belongs c h.claim
  pub draws : draws_of h.claim ≡ []

abbrev pub AreNew : Claims → List Hand → Type 0
AreNew c hands = All (IsNew c) hands

-- what all participants have done, in order
pub record AreDone (plan : Plan) (pieces : List Stretch) (c : Claims) (fs gs : List Hand) : Type 0 where
  pub count : length gs ≡ length fs
  pub each : (k : ℕ) (d : Hand) → k < length fs → HasDone plan pieces c (slice_index_or fs k d) (slice_index_or gs k d)

-- an answer is what each of some participants would give of any pieces, if it stopped
abbrev pub IsCauseOfAll : List Hand → BlockAnswer → Type 0
IsCauseOfAll hands why = (plan : Plan) (pieces : List Stretch) → All (λ (h : Hand). IfSome h.stopped (SomeRefused plan pieces)) hands → SomeRefused plan pieces why
