-- A part of pieces that were put one after another.
use Rattle.std.proofs.Common.{ℕ, List, ◌++◌, Option, Result, Ok, Err, OnErr}
use Rattle.pyd_source.specs.Content.{Added, AddedPrefix}
use Rattle.pyd_source.proofs.Moves.{added_more}
use Rattle.pyd_source.proofs.Prefixes.{prefix_behind, prefix_front}

-- a fact holds on an error too
pub on_err : {T E P : Type 0} (r : Result T E) → P → OnErr r P
on_err (Ok x) p = tt
on_err (Err e) p = p

pub part_of_first : (before after : Option (List ℕ)) (x y z : List ℕ) → AddedPrefix before x after → AddedPrefix before (x ++ (y ++ z)) after
part_of_first before after x y z part = prefix_front before after x (y ++ z) part

pub part_of_second : (before mid after : Option (List ℕ)) (x y z : List ℕ) → Added before x mid → AddedPrefix mid y after → AddedPrefix before (x ++ (y ++ z)) after
part_of_second before mid after x y z first part =
    prefix_behind before mid after x (y ++ z) first (prefix_front mid after y z part)

pub part_of_third : (before mid more after : Option (List ℕ)) (x y z : List ℕ) → Added before x mid → Added mid y more → AddedPrefix more z after → AddedPrefix before (x ++ (y ++ z)) after
part_of_third before mid more after x y z first second part =
    prefix_behind before mid after x (y ++ z) first (prefix_behind mid more after y z second part)

pub all_three : (before mid more after : Option (List ℕ)) (x y z : List ℕ) → Added before x mid → Added mid y more → Added more z after → Added before (x ++ (y ++ z)) after
all_three before mid more after x y z first second third =
    added_more before mid after x (y ++ z) first (added_more mid more after y z second third)
