-- The goals.
use Rattle.amber_home.proofs.Redone.{redoes-more}
use Rattle.amber_home.proofs.RedoneEnds.{leg-ended}
use Rattle.amber_home.proofs.RedoneHomes.{home-begins}
use Rattle.amber_home.proofs.JudgedClose.{judged-ill, judged-well}
use Rattle.amber_home.proofs.home.Home.may_close.Goals as goal
