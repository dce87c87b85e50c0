-- The files of the scans so far, and nothing else has changed.
use Rattle.std.proofs.Common.{◌≡◌, ◌≤◌, ◌^◌}
use Rattle.amber_io.specs.Folder.{Told}
use Rattle.amber_course.proofs.Scanning.{AreInputsSoFar, IsWalked}
use Rattle.amber_course.proofs.scans.load_files.Given as goal

abbrev pub invariant-loop-i : goal.invariant-loop-i
invariant-loop-i g l = record {
  course : Told (g.W.Outside.world l.fn.outside).files (IsWalked l.flow l.i l.left l.files.items);
  inputs : AreInputsSoFar l.flow l.i l.files.items;
  few : l.left ≤ 2 ^ 25;
  same : g.W.Outside.world l.outside ≡ g.W.Outside.world l.fn.outside;
  held : g.W.Outside.held l.outside ≡ g.W.Outside.held l.fn.outside;
}
