mod JoinedLists
