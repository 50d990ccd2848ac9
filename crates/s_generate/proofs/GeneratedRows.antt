-- The script of three tasks, as it is written.
use Rattle.std.specs.Fmt.{digits}
use Rattle.std.proofs.Common.{◌≡◌, ◌++◌, codes, refl}
use Rattle.s_generate.specs.Generated.{declarations, generated}

three_tasks : generated 3 ≡ declarations ++ codes "task(1, 38);\ntask(2, 75);\ntask(3, 15);\n}\nfn main() { print 3; return handle all() with count(0, 0); }\n"
unfolding digits
three_tasks = refl
