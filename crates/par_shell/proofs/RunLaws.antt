-- How a script is answered, line after line.
use Rattle.std.proofs.Common.{◌≡◌, ◌∙◌, ◌⊎◌, inl, inr, ℕ, suc, ◌+◌, ◌≤◌, List, [], ◌∷◌, ◌++◌, Option, Some, None, IfSome, OnErr, Result, Ok, Err, length, take, append_assoc, refl, ap, sym, subst, arith}
use Rattle.std.proofs.KnownBytes.{Appends-trans}
use Rattle.std.specs.Io.KnownBytes.{Appends}
use Rattle.par_shell.specs.Lines.{IsAnswered, IsShell, Opens}
use Rattle.par_shell.specs.Scripts.{Answers, AnswersPart, IsPart, IsRun, Runs, lines_of, written}
use Rattle.par_shell.specs.declared.shell.Shell.{Shell}

-- so far these lines were answered, and of the text of the answers a front was written and the rest is gathered
pub record SoFar (first : Shell) (script : List ℕ) (shell : Shell) (left : List ℕ) (old now : Option (List ℕ)) (gathered : List ℕ) : Type 0 where
  pub lines : List (List ℕ)
  pub are : lines_of script ≡ lines ++ lines_of left
  pub answers : List (List ℕ)
  pub runs : Runs first lines answers shell
  pub sent : List ℕ
  pub appended : Appends old now sent
  pub text : sent ++ gathered ≡ written answers

append_nil : (ys : List ℕ) → ys ++ [] ≡ ys
append_nil [] = refl
append_nil (y ∷ ys) = ap (λ (l : List ℕ). y ∷ l) (append_nil ys)

appends-none : (old : Option (List ℕ)) → Appends old old []
appends-none None = tt
appends-none (Some xs) = sym (append_nil xs)

runs-more : (first shell next : Shell) (lines answers : List (List ℕ)) (line answer : List ℕ) → Runs first lines answers shell → IsAnswered shell next line answer → Runs first (lines ++ line ∷ []) (answers ++ answer ∷ []) next
runs-more first shell next [] [] line answer r a = (next, subst (λ (s : Shell). IsAnswered s next line answer) r a, refl)
runs-more first shell next [] (x ∷ xs) line answer r a = absurd r
runs-more first shell next (l ∷ ls) [] line answer r a = absurd r
runs-more first shell next (l ∷ ls) (x ∷ xs) line answer r a = (r.0, r.1, runs-more r.0 shell next ls xs line answer r.2 a)

written-more : (answers : List (List ℕ)) (answer : List ℕ) → written (answers ++ answer ∷ []) ≡ written answers ++ (answer ++ 10 ∷ [])
written-more [] answer = refl
written-more (x ∷ xs) answer =
    ap (λ (l : List ℕ). x ++ (10 ∷ l)) (written-more xs answer) ∙ sym (append_assoc x (10 ∷ written xs) (answer ++ 10 ∷ []))

-- at the start nothing was answered
pub starts : (first : Shell) (script : List ℕ) (old : Option (List ℕ)) → SoFar first script first script old old []
starts first script old = record { lines = []; are = refl; answers = []; runs = refl; sent = []; appended = appends-none old; text = refl }

-- one more line was answered
pub goes-on : (first : Shell) (script : List ℕ) (shell next : Shell) (left rest : List ℕ) (old now : Option (List ℕ)) (gathered line answer : List ℕ) → SoFar first script shell left old now gathered
    → lines_of left ≡ line ∷ lines_of rest → IsAnswered shell next line answer → SoFar first script next rest old now (gathered ++ (answer ++ 10 ∷ []))
goes-on first script shell next left rest old now gathered line answer s is a = record {
  lines = s.lines ++ line ∷ [];
  are = s.are ∙ (ap (λ (l : List (List ℕ)). s.lines ++ l) is ∙ sym (append_assoc s.lines (line ∷ []) (lines_of rest)));
  answers = s.answers ++ answer ∷ [];
  runs = runs-more first shell next s.lines s.answers line answer s.runs a;
  sent = s.sent;
  appended = s.appended;
  text = sym (append_assoc s.sent gathered (answer ++ 10 ∷ [])) ∙ (ap (λ (l : List ℕ). l ++ (answer ++ 10 ∷ [])) s.text ∙ sym (written-more s.answers answer));
}

-- what was gathered was written
pub sends : (first : Shell) (script : List ℕ) (shell : Shell) (left : List ℕ) (old now then : Option (List ℕ)) (gathered : List ℕ) → SoFar first script shell left old now gathered → Appends now then gathered → SoFar first script shell left old then []
sends first script shell left old now then gathered s a = record {
  lines = s.lines;
  are = s.are;
  answers = s.answers;
  runs = s.runs;
  sent = s.sent ++ gathered;
  appended = Appends-trans old now then s.sent gathered s.appended a;
  text = append_nil (s.sent ++ gathered) ∙ s.text;
}

-- what was gathered was written or not
pub sends-or-not : {T : Type 0} (taken : T → Option (List ℕ)) (first : Shell) (script : List ℕ) (shell : Shell) (left : List ℕ) (old : Option (List ℕ)) (now then : T) (gathered after : List ℕ) → SoFar first script shell left old (taken now) gathered
    → ((after ≡ gathered) × (then ≡ now)) ⊎ ((after ≡ []) × Appends (taken now) (taken then) gathered) → SoFar first script shell left old (taken then) after
sends-or-not {T} taken first script shell left old now then gathered after s (inl same) =
    subst (λ (t : T). SoFar first script shell left old (taken t) after) (sym same.1) (subst (λ (l : List ℕ). SoFar first script shell left old (taken now) l) (sym same.0) s)
sends-or-not {T} taken first script shell left old now then gathered after s (inr sent) =
    subst (λ (l : List ℕ). SoFar first script shell left old (taken then) l) (sym sent.0) (sends first script shell left old (taken now) (taken then) gathered s sent.1)

-- at the end all lines were answered
pub ends : (first : Shell) (script : List ℕ) (shell : Shell) (left : List ℕ) (old now then : Option (List ℕ)) (gathered : List ℕ) → SoFar first script shell left old now gathered → left ≡ [] → Appends now then gathered
    → (text : List ℕ) × Answers first script text shell × Appends old then text
ends first script shell left old now then gathered s none a =
    let all : lines_of script ≡ s.lines = s.are ∙ (ap (λ (l : List ℕ). s.lines ++ lines_of l) none ∙ nil s.lines) in (
      s.sent ++ gathered,
      record { answers = s.answers; runs = subst (λ (l : List (List ℕ)). Runs first l s.answers shell) (sym all) s.runs; text_is = s.text },
      Appends-trans old now then s.sent gathered s.appended a,
    )
  where
    nil : (ys : List (List ℕ)) → ys ++ [] ≡ ys
    nil [] = refl
    nil (y ∷ ys) = ap (λ (l : List (List ℕ)). y ∷ l) (nil ys)

take-front : (xs ys : List ℕ) (n : ℕ) → take (length xs + n) (xs ++ ys) ≡ xs ++ take n ys
take-front [] ys n = let same : 0 + n ≡ n = omega arith in rw same refl
take-front (x ∷ xs) ys n = let same : length (x ∷ xs) + n ≡ suc (length xs + n) = omega arith in rw (same, take-front xs ys n) refl

-- where it stops, a front of the answers' text was written
pub stops : (first : Shell) (script : List ℕ) (shell : Shell) (left : List ℕ) (old now then : Option (List ℕ)) (gathered : List ℕ) (n : ℕ) → SoFar first script shell left old now gathered → Appends now then (take n gathered)
    → (text : List ℕ) × AnswersPart first script text × Appends old then text
stops first script shell left old now then gathered n s a = (
  s.sent ++ take n gathered,
  record {
    lines = s.lines;
    rest = lines_of left;
    first_lines = s.are;
    answers = s.answers;
    last = shell;
    runs = s.runs;
    begins = (length s.sent + n, sym (take-front s.sent gathered n) ∙ ap (λ (l : List ℕ). take (length s.sent + n) l) s.text);
  },
  Appends-trans old now then s.sent (take n gathered) s.appended a,
)

-- where nothing more was written
pub halts : (first : Shell) (script : List ℕ) (shell : Shell) (left : List ℕ) (old now : Option (List ℕ)) (gathered : List ℕ) → SoFar first script shell left old now gathered → (text : List ℕ) × AnswersPart first script text × Appends old now text
halts first script shell left old now gathered s = stops first script shell left old now now gathered 0 s (appends-none now)

-- ---- one side of a result
pub on-err : {A E : Type 0} (r : Result A E) (P : Type 0) → P → OnErr r P
on-err (Ok a) P p = tt
on-err (Err e) P p = p

pub err-weaker : {A E : Type 0} (r : Result A E) (P Q : Type 0) → (P → Q) → OnErr r P → OnErr r Q
err-weaker (Ok a) P Q f h = tt
err-weaker (Err e) P Q f h = f h

-- ---- from the bytes that a source had
-- a part was answered
pub part-of : (left : Option (List ℕ)) (asked : Option ℕ) (pages : ℕ) (items slice : List ℕ) (first : Shell) (old new : Option (List ℕ)) → IfSome left (λ bytes. items ≡ bytes) → Some pages ≡ asked → slice ≡ items → IsShell first → Opens pages first
    → (text : List ℕ) × AnswersPart first slice text × Appends old new text → IfSome left (λ script. IfSome asked (λ n. (text : List ℕ) × IsPart n script text × Appends old new text))
part-of None asked pages items slice first old new whole e same is opens p = tt
part-of (Some bytes) None pages items slice first old new whole e same is opens p = absurd (cc)
part-of (Some bytes) (Some n) pages items slice first old new whole e same is opens p =
    let is_n : pages ≡ n = cc in
    (p.0, (first, is, subst (λ (k : ℕ). Opens k first) is_n opens, subst (λ (l : List ℕ). AnswersPart first l p.0) (same ∙ whole) p.1), p.2)

-- all was answered
pub run-of : (left : Option (List ℕ)) (asked : Option ℕ) (pages : ℕ) (items slice : List ℕ) (first last : Shell) (old new : Option (List ℕ)) → IfSome left (λ bytes. items ≡ bytes) → Some pages ≡ asked → slice ≡ items → IsShell first → Opens pages first
    → IsShell last → (text : List ℕ) × Answers first slice text last × Appends old new text → IfSome left (λ script. IfSome asked (λ n. (text : List ℕ) × IsShell last × IsRun n script text last × Appends old new text))
run-of None asked pages items slice first last old new whole e same is opens ends_so p = tt
run-of (Some bytes) None pages items slice first last old new whole e same is opens ends_so p = absurd (cc)
run-of (Some bytes) (Some n) pages items slice first last old new whole e same is opens ends_so p =
    let is_n : pages ≡ n = cc in
    (p.0, ends_so, (first, is, subst (λ (k : ℕ). Opens k first) is_n opens, subst (λ (l : List ℕ). Answers first l p.0 last) (same ∙ whole) p.1), p.2)
