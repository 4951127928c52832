use Rattle.std.specs.Prelude.{◌≡◌, vec_len}
use Rattle.sf_cli_drive.proofs.driving.loaders.Given as goal

abbrev pub invariant-loop-getter : goal.invariant-loop-getter
invariant-loop-getter l = vec_len l.sets ≡ l.getter
