use Rattle.std.proofs.Common.{arith}
use Rattle.fault_sim.proofs.passes.TestPass.fill_row.Goals as goal

pub fill_compared-requires-clause-row : goal.fill_compared-requires-clause-row
fill_compared-requires-clause-row c = rw (← c.self.view_is) at c.requires.row

pub fill_compared-requires-clause-tdo_room : goal.fill_compared-requires-clause-tdo_room
fill_compared-requires-clause-tdo_room c = let room = rw (← c.self.view_is) at c.requires.room in room.tdo

pub fill_compared-requires-clause-mask_room : goal.fill_compared-requires-clause-mask_room
fill_compared-requires-clause-mask_room c = let room = rw (← c.self.view_is) at c.requires.room in room.mask

pub returns : goal.returns
returns c =
    let room = rw (← c.self.view_is) at c.requires.room in
    rw (← c.self.view_is)
    (record {
      row = record { tdo = c.fill_compared.ensures.tdo; mask = c.fill_compared.ensures.mask };
      room =
          record {
            tdo = omega (arith, room.tdo, c.fill_compared.ensures.tdo_kept);
            mask = omega
                (arith, room.mask, c.fill_compared.ensures.mask_kept);
          };
    })
