use Rattle.plio.proofs.Turns.{few_turns, as_many_calls, one_way}
use Rattle.plio.proofs.whole.memory_turns.Goals as goal

pub returns-clause-few : goal.returns-clause-few
returns-clause-few c = λ limit turns n old new h. few_turns limit old turns n new h

pub returns-clause-calls : goal.returns-clause-calls
returns-clause-calls c = λ limit turns n old new small h. as_many_calls limit old small turns n new h

pub returns-clause-once : goal.returns-clause-once
returns-clause-once c = λ limit turns others n old new other h j. one_way limit old turns others n new other h j
