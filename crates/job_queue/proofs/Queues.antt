-- What went through a queue, as the numbers of jobs.
use Rattle.std.proofs.Common.{◌≡◌, ℕ, ◌<◌, ◌^◌, true, List, [], ◌∷◌, ◌++◌, map, refl, sym, ap, ◌∙◌, arith}
use Rattle.std.specs.Int.{to_le_bytes, w64}
use Rattle.std.proofs.lemmas.Nat.{from_le_bytes-to_le_bytes_8}
use Rattle.std.proofs.lemmas.List.{map-append}
use Rattle.ring_rule.specs.Ring.{Sending}
use Rattle.mq_handle.specs.Messages.{whole_of}
use Rattle.mq_handle.specs.Waiting.{EndsSend}
use Rattle.mq_handle.specs.declared.answers.SendDone.TheVariants.{Sent}
use Rattle.job_queue.specs.Jobs.{number_of}
use Rattle.job_queue.specs.Lanes.{jobs_in}

pub nothing_in : jobs_in [] ≡ []
unfolding whole_of
nothing_in = refl

-- a number comes back from its message
number_back : (n : ℕ) → n < 2 ^ 64 → number_of (to_le_bytes w64 n) ≡ n
number_back n low = let e = from_le_bytes-to_le_bytes_8 n low in omega (arith, e)

-- one message more is one job more
pub one_more : (old new : List ℕ) (message : List ℕ) → whole_of new ≡ whole_of old ++ message ∷ [] → jobs_in new ≡ jobs_in old ++ number_of message ∷ []
one_more old new message e = ap (map number_of) e ∙ map-append number_of (whole_of old) (message ∷ [])

-- the job of a message that was sent is the last one
pub sent_job : (old new : Sending) (message : List ℕ) (n : ℕ) → n < 2 ^ 64 → message ≡ to_le_bytes w64 n → EndsSend old new message true Sent → jobs_in new.put ≡ jobs_in old.put ++ n ∷ []
sent_job old new message n low e a =
    one_more old.put new.put message (a.2.whole ∙ ap (λ (ms : List (List ℕ)). ms ++ message ∷ []) a.1.whole)
    ∙ ap (λ (k : ℕ). jobs_in old.put ++ k ∷ []) (ap number_of e ∙ number_back n low)
