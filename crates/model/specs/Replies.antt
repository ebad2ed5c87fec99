-- What the calls are handed determines what they reply.
use Rattle.std.specs.Prelude.{◌≡◌, ℕ, List, map}
use Rattle.model.specs.declared.Choice.{Choice}
use Rattle.model.specs.Questions.{EnquiryMeaning, Lawful}
use Rattle.model.specs.Runs.{Event, pose, next, again, check, resume, Happens}

-- A call with what it is handed: ends and choice, buffer, or words.
pub data Call : Type 0 where
  pose_call : (start target : ℕ) (choice : Choice) → Call
  next_call : (buffer : List ℕ) → Call
  again_call : Call
  check_call : List ℕ → Call
  resume_call : List ℕ → Call

-- The call of an event, without its reply.
abbrev pub handed : Event → Call
handed (pose v t c o) = pose_call v t c
handed (next b o b') = next_call b
handed (again o) = again_call
handed (check ws o) = check_call ws
handed (resume ws o) = resume_call ws

-- Two runs of the same calls are the same run.
abbrev pub Determined : Type 0
Determined = (n : EnquiryMeaning) → Lawful n → (es fs : List Event) → Happens n es → Happens n fs → map handed es ≡ map handed fs → es ≡ fs

-- There is a run of these calls.
pub record CallsHappen (n : EnquiryMeaning) (cs : List Call) : Type 0 where
  pub events : List Event
  pub happens : Happens n events
  pub calls_are : map handed events ≡ cs

-- Every list of calls has a run.
abbrev pub EveryListHappens : Type 0
EveryListHappens = (n : EnquiryMeaning) → Lawful n → (cs : List Call) → CallsHappen n cs

-- Every list of calls has exactly one run.
pub record CallsAnswer : Type 0 where
  pub every_list : EveryListHappens
  pub one_way : Determined
