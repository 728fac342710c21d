use Rattle.class_layout.proofs.ObjectLaws.{FirstHavePlaces}
use Rattle.class_layout.proofs.objects.place_objects.Given as goal

abbrev pub invariant-loop-row : goal.invariant-loop-row
invariant-loop-row l = FirstHavePlaces l.rows l.row-index l.objects.items l.behind
