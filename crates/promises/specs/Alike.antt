-- What comes back for requests one after another, as lists, so that two runs can be held beside each other: document 01, 'How far each statement must
-- reach'.
use Rattle.std.specs.Prelude.{ℕ, List, [], map}
use Rattle.requests.specs.Answers.{Answer}
use Rattle.requests.specs.Allowed.{Request, check, get, get_at, changes}
use Rattle.promises.specs.Trace.{Step}

-- the output that a request gets back; a check and a change are lent none
abbrev pub handed_back : Request → List ℕ → List ℕ
handed_back check out = []
handed_back (get wanted lent) out = out
handed_back (get_at address lent) out = out
handed_back (changes ch) out = []

-- what was asked,
abbrev pub requests_in : List Step → List Request
requests_in ss = map (λ (s : Step). s.request) ss

-- what was answered,
abbrev pub answers_in : List Step → List Answer
answers_in ss = map (λ (s : Step). s.answer) ss

-- the area after each step,
abbrev pub areas_in : List Step → List (List ℕ)
areas_in ss = map (λ (s : Step). s.area) ss

-- and the outputs
abbrev pub outputs_in : List Step → List (List ℕ)
outputs_in ss = map (λ (s : Step). handed_back s.request s.output) ss
