use Rattle.std.specs.Prelude.{Option, Some, None, List}
use Rattle.xbar_equip.specs.Len.{Line}
use Rattle.xbar_equip.specs.Paths.{without_path}
use Rattle.xbar_equip.specs.declared.path.Path.{Path}
use Rattle.xbar_plan.specs.Tables.{Tables}
use Rattle.xbar_office.specs.Done.{Done, refused}
use Rattle.xbar_office.specs.Replies.{plain_reply}
use Rattle.xbar_office.specs.Standing.{path_of, other_path}
use Rattle.xbar_office.specs.declared.reply.End.TheVariants.{Released, NoCall}

-- the set with the path removed, if there is one
abbrev pub without_other : List Path → Option Path → List Path
without_other paths None = paths
without_other paths (Some other) = without_path paths other

-- the line's own path is removed, and the other party's with it
abbrev pub release_paths : List Path → Path → Option Path → Done
release_paths paths own other = record {
  paths = without_other (without_path paths own) other;
  reply = plain_reply (Released own other);
}

-- a release, by the line's own path, if it has one
abbrev pub release_from : Tables → List Path → Option Path → Done
release_from plan paths None = refused paths NoCall
release_from plan paths (Some own) = release_paths paths own (other_path plan paths own)

-- a release: the line's call is removed, with every path that it has
abbrev pub release : Tables → List Path → Line → Done
release plan paths line = release_from plan paths (path_of paths line)
