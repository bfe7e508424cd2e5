use Rattle.xbar_plan.specs.Tables.{Tables}
use Rattle.xbar_plan.specs.declared.table_slices.TableSlices.{TableSlices}

-- the tables that the slices hold
abbrev pub tables_of : TableSlices → Tables
tables_of slices =
    record {
      groups = slices.groups.now;
      stations = slices.stations.now;
      routes = slices.routes.now;
      faults = slices.faults.now;
    }
