-- A data frame that refers to the bytes it was read from.
use Rattle.std.specs.Prelude.{◌+◌, ◌≤◌, length}
use Rattle.phy_payload.specs.declared.data_frame.DataFrame.{DataFrame}
use Rattle.phy_payload.specs.declared.frame_ref.DataFrameRef.TheInside.{Inside}
use Rattle.phy_payload.specs.Contents.{carried_contents}
use Rattle.phy_payload.specs.Reading.{port_payload_of}

abbrev pub seen_frame : Inside → DataFrame
seen_frame f =
    record {
      confirmed = f.confirmed;
      dev_addr = f.dev_addr;
      control = f.control;
      f_cnt = f.f_cnt;
      contents = carried_contents f.f_opts.now (port_payload_of f.behind.now);
      mic = f.mic;
    }

-- FOpts has at most 15 bytes, and a frame at most 255
abbrev pub IsSeen : Inside → Type 0
IsSeen f =
    (length f.f_opts.now ≤ 15) × (length f.f_opts.now + length f.behind.now ≤ 243)
