-- What `partial` made may be sent.
use Rattle.std.proofs.Common.{◌≡◌, ◌∙◌, ℕ, List, [], ◌∷◌, ap, append-nil, get_or, subst, sym}
use Rattle.std.proofs.lemmas.List.Elements.{All-cons, All-nil}
use Rattle.csv_rows.specs.Records.{record_at}
use Rattle.plan_spec.specs.Query.{Query}
use Rattle.row_blocks.specs.Blocks.{Table}
use Rattle.state_head.specs.declared.cover.Place.{Place}
use Rattle.state_law.specs.Law.{with_header}
use Rattle.state_law.specs.Made.{tile, whole}
use Rattle.state_law.specs.Sources.{bytes_at, comma_text, whole_place}
use Rattle.state_law.specs.Truth.{IsReadOf}
use Rattle.state_plan.specs.FilePlans.{header_of}
use Rattle.state_whole.specs.Files.{StateFile, file_bytes}
use Rattle.state_answers.specs.Sent.{IsJob, IsPart, IsSent, Job, MadeIsSent, PartIsSent, TileIsSent, work_by}
use Rattle.state_answers.proofs.Asked.{ask_for_one}

-- by the query and the header of the job
read_by : (j : Job) (p : Place) (read : List ℕ) (f : StateFile) → IsJob j → IsPart j p read f → IsReadOf j.query.plan j.query.reading (header_of j.query.reading j.subject) p read f
read_by j p read f job part =
    let same : part.query ≡ j.query = ask_for_one j.subject.words part.query j.query part.ask_for job.ask_for in
    let head : part.header ≡ header_of part.query.reading j.subject = sym (ap (λ (l : Table). record_at l 0) part.header_is) in
    let by_head = subst (λ (h : List (List ℕ)). IsReadOf part.query.plan part.query.reading h p read f) head part.is_read in
    subst (λ (q : Query). IsReadOf q.plan q.reading (header_of q.reading j.subject) p read f) same by_head

pub made_is_sent : MadeIsSent
made_is_sent j f bytes made subject text = record {
  shape = text.shape;
  is_shape = text.is_shape;
  files = f ∷ [];
  each = All-cons (IsSent j text.shape) f [] (record { made = made; is_file = text.is_file; subject_is = subject }) (All-nil (IsSent j text.shape));
  are = text.is ∙ sym (append-nil (file_bytes text.shape.kinds.now f));
}

pub part_is_sent : PartIsSent
part_is_sent j source f bytes job part text =
    let t = get_or j.texts source [] in
    let p = whole_place source t in
    made_is_sent j f bytes (whole source f (read_by j p (comma_text (work_by j) source) f job part)) part.subject_is text

pub tile_is_sent : TileIsSent
tile_is_sent j p before f bytes job one cut is_tile part text =
    let read = with_header p.from before (bytes_at (work_by j) p) in
    made_is_sent j f bytes (tile before p f one cut is_tile (read_by j p read f job part)) part.subject_is text
