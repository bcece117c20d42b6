use Rattle.std.proofs.Common.{drop}
use Rattle.changer_elements.specs.Status.{descriptors, of_type}
use Rattle.changer_status.proofs.Laws.{Putting}
use Rattle.changer_status.proofs.Told.put_descriptors.Given as goal

-- What is left to write, written where the last descriptor ends, makes the whole.
abbrev pub invariant-loop-element : goal.invariant-loop-element
invariant-loop-element l = Putting l.at (descriptors l.self.slots (of_type l.kind l.self.es.now)) (descriptors l.self.slots (of_type l.kind (drop l.element-index l.self.es.now))) l.initial.out l.out l.next
