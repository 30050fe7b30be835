-- `writing::back::Back::to_front` meets its contract.
use Rattle.writing.proofs.back.Back.to_front.Goals as goal

pub returns-clause-gives : goal.returns-clause-gives
returns-clause-gives c = λ t before start e w. rw e.holds at (c.front_of_any.ensures.gives t start.out.now start.at (rw e.holds e.start) (record { next = w.next; text = w.text; long = w.long }))
